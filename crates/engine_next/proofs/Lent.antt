-- Rows that a page of the batch is made of.
use Rattle.std.proofs.Common.{◌≡◌, ℕ, ◌≤◌, Bool, List, length, take, drop, ap, ◌∙◌, arith, length-drop, length-take}
use Rattle.std.proofs.lemmas.List.{append-nil, drop_all, take_at, length-map}
use Rattle.pages.specs.Bytes.{over}
use Rattle.pages.specs.Fields.{at}
use Rattle.records.specs.Does.{names_on, new_person, new_root, put_block}
use Rattle.engine_next.specs.Memory.{name_in, root_in, with_batch}

-- what is put into the front of a row is its front
pub front_of : (n : ℕ) (w ys : List ℕ) → length w ≡ n → take n (over w ys) ≡ w
front_of n w ys l = take_at w (drop (length w) ys) n l

pub length_name : (n : ℕ) (m : List ℕ) → n ≤ 64 → length m ≡ 262144 → length (name_in n m) ≡ n
unfolding name_in
length_name n m h l = simp (length-map, length-take, length-drop) (omega arith)

-- a name read from memory and looked for on a page
pub name_sought : (b : Bool) (bs : List ℕ) (k k₁ l j : ℕ) (w row ys : List ℕ) → b ≡ names_on bs k (take j row) → j ≡ l → k ≡ k₁ → row ≡ over w ys → length w ≡ l → b ≡ names_on bs k₁ w
name_sought b bs k k₁ l j w row ys e q p r s = e ∙ rw (p, q, r) (ap (names_on bs k₁) (front_of l w ys s))

-- a row overwritten as a whole
pub over_whole : (w ys : List ℕ) → length ys ≤ length w → over w ys ≡ w
over_whole w ys h = rw (drop_all (length w) ys h) (append-nil w)

-- the page with the new person, from the rows that it is made of
pub person_put : (place l j : ℕ) (nm row ys bs page m m₁ : List ℕ) → j ≡ l → length nm ≡ l → row ≡ over nm ys →
    page ≡ put_block place (new_person (take j row)) bs → m₁ ≡ with_batch 0 page m → m₁ ≡ with_batch 0 (put_block place (new_person nm) bs) m
person_put place l j nm row ys bs page m m₁ q s r p b =
    b ∙ ap (λ x. with_batch 0 x m) (p ∙ rw (q, r) (ap (λ x. put_block place (new_person x) bs) (front_of l nm ys s)))

pub root_put : (a w : ℕ) (old page₀ page₁ page m m₁ : List ℕ) (k : ℕ) → length page₀ ≤ length old → page₁ ≡ over old page₀ → k ≡ at 16 8 page₁ →
    page ≡ new_root page₁ a w k → m₁ ≡ with_batch 1 page m → m₁ ≡ with_batch 1 (new_root old a w (at 16 8 old)) m
root_put a w old page₀ page₁ page m m₁ k h e q p b =
    b ∙ ap (λ x. with_batch 1 x m) (p ∙ rw (q, e, over_whole old page₀ h))

pub length_root : (m : List ℕ) → length m ≡ 262144 → length (root_in m) ≡ 512
unfolding root_in
length_root m l = simp (length-map, length-take, length-drop) (omega arith)

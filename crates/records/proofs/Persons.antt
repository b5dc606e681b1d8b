-- People's records on a page, and names found page by page.
use Rattle.std.proofs.Common.{◌≡◌, ℕ, zero, suc, ◌+◌, ◌-◌, ◌*◌, ◌/◌, ◌%◌, ◌<◌, ◌≤◌, min, Bool, true, false, ◌||◌, leb, List, [], ◌∷◌, ◌++◌, length, get_or, take, drop, replicate, Decides, sym, refl, ap, ◌∙◌, ap₂, arith, take-add, rules}
use borrow.Rule.Slice.PartMut.{put_mid}
use Rattle.std.specs.List.{list_any, range_with_len}
use Rattle.std.proofs.lemmas.List.{append_assoc, take_all, take_rest, take-take, take_at, take-replicate, drop-drop, drop_at, drop-take, drop-replicate, length-take, length-drop, take_min}
use Rattle.std.proofs.lemmas.Bool.{leb-true, leb-false}
use Rattle.std.proofs.lemmas.Slice.Eq.{compares_Decides}
use Rattle.pages.specs.Lists.{pick, or, any, same}
use Rattle.pages.specs.Bytes.{in_bytes, eight, from_eight, placed}
use Rattle.pages.specs.Device.{Page, page_at, zeros}
use Rattle.pages.specs.Fields.{number, at, fd, fields, pad}
use Rattle.pages.proofs.ByteLists.{length_eight}
use Rattle.pages.proofs.Fields.{in_bytes_append, length_in_bytes, length_fields, length_pad}
use Rattle.pages.proofs.Placed.{Wrote, and_more, placed_bytes}
use Rattle.recurrence.specs.Span.{days_from}
use Rattle.records.proofs.SheetBytes.{zeros_are}
use Rattle.records.specs.Does.{new_root, block, put_block, new_record, new_person, record_in, name_in, names_in, names_on, names_from}

-- a number of fewer bytes than eight
pub number_short : (w : ℕ) (bs : List ℕ) → w ≤ 8 → from_eight 0 (take 8 (take w bs)) ≡ number w bs
unfolding number
number_short w bs h = ap (from_eight 0) (take_all 8 (take w bs) (simp length-take (omega arith)))

-- A PAGE FROM A RECORD ON, and with another record there
pub block_drop : (r : ℕ) (p : Page) → block r p ≡ drop (128 * r) p
unfolding block
block_drop zero p = refl
block_drop (suc r) p = block_drop r (drop 128 p) ∙ drop-drop (128 * r) 128 p ∙ ap (λ k. drop k p) (omega arith)

pub block_placed : (r : ℕ) (b p : List ℕ) → length b ≡ 128 → put_block r b p ≡ placed (128 * r) b p
unfolding put_block placed
block_placed zero b p l = let e : 0 + length b ≡ 128 = omega arith in rw e
block_placed (suc r) b p l =
    let n : 128 + (128 * r + length b) ≡ 128 * suc r + length b = omega arith in
    let m : 128 + 128 * r ≡ 128 * suc r = omega arith in
    ap (λ t. take 128 p ++ t) (block_placed r b (drop 128 p) l ∙ ap (λ t. take (128 * r) (drop 128 p) ++ (b ++ t)) (drop-drop (128 * r + length b) 128 p ∙ ap (λ k. drop k p) n))
    ∙ sym (append_assoc (take 128 p) (take (128 * r) (drop 128 p)) (b ++ drop (128 * suc r + length b) p))
    ∙ ap (λ t. t ++ (b ++ drop (128 * suc r + length b) p)) (sym (take-add 128 (128 * r) p) ∙ ap (λ k. take k p) m)

pub block_part : (r : ℕ) (p : Page) → take (length p - 128 * r) (drop (128 * r) p) ≡ block r p
block_part r p = take_rest p (128 * r) ∙ sym (block_drop r p)

pub page_block : (n r : ℕ) (p : Page) → length p ≡ n → take (n - 128 * r) (drop (128 * r) p) ≡ block r p
page_block n r p e = rw (← e) (block_part r p)

-- a record lent and filled is that record on the page
pub block_filled : (r m : ℕ) (b p ys : List ℕ) → length b ≡ 128 → m ≡ 128 → ys ≡ b → put_mid (128 * r) m p ys ≡ put_block r b p
block_filled r m b p ys l e y = placed_bytes (128 * r) m b p ys (e ∙ sym l) y ∙ sym (block_placed r b p l)

abbrev pub named : Page → List ℕ → ℕ → Bool
named p name a = same (name_in (block a p)) name

pub named_part : (p : Page) (name : List ℕ) (a : ℕ) (t : Bool) → t ≡ same (name_in (take (length p - 128 * a) (drop (128 * a) p))) name → named p name a ≡ t
named_part p name a t e = ap (λ r. same (name_in r) name) (sym (block_part a p)) ∙ sym e

or_is : (a b : Bool) → (a || b) ≡ or a b
or_is true b = refl
or_is false b = refl

-- names of records read from the page's bytes on
abbrev read : Page → List ℕ → ℕ → Bool
read p name a = same (name_in (take (512 - 128 * a) (drop (128 * a) p))) name

names_read : (p : Page) (name : List ℕ) (a n : ℕ) → length p ≡ 512 → list_any (read p name) (range_with_len a n) ≡ any (named p name) (days_from a n)
unfolding days_from
names_read p name a zero e = refl
names_read p name a (suc n) e =
    let s : a + 1 ≡ suc a = omega arith in
    or_is (read p name a) _ ∙ ap₂ or (ap (λ r. same (name_in r) name) (page_block 512 a p e)) (ap (λ k. list_any (read p name) (range_with_len k n)) s ∙ names_read p name (suc a) n e)

pub names_found : (p : Page) (name : List ℕ) (n : ℕ) → length p ≡ 512 → list_any (λ a. same (name_in (take (512 - 128 * a) (drop (128 * a) p))) name) (range_with_len 0 n) ≡ names_on p n name
unfolding names_on
names_found p name n e = names_read p name 0 n e

-- NUMBERS AND NAMES WRITTEN
three : (j k l a b c : ℕ) (r : List ℕ) → in_bytes j a [] ++ in_bytes k b [] ++ in_bytes l c [] ++ r ≡ fields (fd j a ∷ fd k b ∷ fd l c ∷ []) r
unfolding fields
three j k l a b c r =
    append_assoc (in_bytes j a [] ++ in_bytes k b []) (in_bytes l c []) r ∙ append_assoc (in_bytes j a []) (in_bytes k b []) (in_bytes l c [] ++ r)
    ∙ ap (λ t. in_bytes j a [] ++ (in_bytes k b [] ++ t)) (in_bytes_append l c [] r)
    ∙ ap (λ t. in_bytes j a [] ++ t) (in_bytes_append k b [] (in_bytes l c r)) ∙ in_bytes_append j a [] (in_bytes k b (in_bytes l c r))

wrote_front : {w y o : List ℕ} {j : ℕ} → Wrote 0 w y o j → o ≡ w ++ drop j y
unfolding placed
wrote_front {w} {y} {o} {j} h = h.row ∙ ap (λ k. w ++ drop k y) (sym h.end)

pub root_filled : (y o₁ o₂ o : List ℕ) (c w k : ℕ) → o₁ ≡ placed 0 (eight c) y → o₂ ≡ placed 8 (eight w) o₁ → o ≡ placed 16 (eight k) o₂ → o ≡ new_root y c w k
unfolding new_root
root_filled y o₁ o₂ o c w k e₁ e₂ e₃ =
    let lc = length_eight c in
    let lw = length_eight w in
    let lk = length_eight k in
    let w₁ : Wrote 0 (eight c) y o₁ 8 = record { row = e₁; end = omega arith } in
    let w₂ = and_more w₁ (eight w) o₂ 16 (omega arith) e₂ (omega arith) in
    let w₃ = and_more w₂ (eight k) o 24 (omega arith) e₃ (omega arith) in
    wrote_front w₃ ∙ three 8 8 8 c w k (drop 24 y)

one_byte : (n : ℕ) → n < 256 → in_bytes 1 n [] ≡ n ∷ []
unfolding in_bytes
one_byte n h = let e : n % 256 ≡ n = omega arith in rw e

name_padded : (name : List ℕ) → length name ≤ 64 → name ++ drop (13 + length name) (replicate 128 0) ≡ pad 115 name
unfolding pad
name_padded name h =
    let n = length name in
    let m : n + (115 - n) ≡ 115 = omega arith in
    let k : 128 - (13 + n) ≡ 115 - n = omega arith in
    let z : drop (13 + n) (replicate 128 0) ≡ take (115 - n) (zeros 115) =
    drop-replicate (13 + n) 128 0 ∙ ap (λ i. replicate i 0) k ∙ sym (ap (take (115 - n)) (sym (zeros_are 115)) ∙ take-replicate (115 - n) 115 0 (omega arith)) in
    let t = take-add n (115 - n) (name ++ zeros 115) in
    sym (rw (m, take_at name (zeros 115) n refl, drop_at name (zeros 115) n refl) at t ∙ ap (λ u. name ++ u) (sym z))

pub person_filled : (name y o₁ o₂ o₃ o : List ℕ) → length name ≤ 64 → y ≡ replicate 128 0 →
    o₁ ≡ placed 0 (length name ∷ []) y → o₂ ≡ placed 1 (eight 1) o₁ → o₃ ≡ placed 9 (in_bytes 4 0 []) o₂ → o ≡ placed 13 name o₃ → o ≡ new_person name
unfolding new_person
person_filled name y o₁ o₂ o₃ o h z e₁ e₂ e₃ e₄ =
    let l₂ = length_eight 1 in
    let l₃ = length_in_bytes 4 0 [] in
    let l₁ = length_in_bytes 1 (length name) [] in
    let w₁ : Wrote 0 (in_bytes 1 (length name) []) y o₁ 1 = record { row = e₁ ∙ ap (λ w. placed 0 w y) (sym (one_byte (length name) (omega arith))); end = omega arith } in
    let w₂ = and_more w₁ (eight 1) o₂ 9 (omega arith) e₂ (omega arith) in
    let w₃ = and_more w₂ (in_bytes 4 0 []) o₃ 13 (omega arith) e₃ (omega arith) in
    let w₄ = and_more w₃ name o (13 + length name) (omega arith) e₄ (omega arith) in
    wrote_front w₄ ∙ append_assoc _ name (drop (13 + length name) y) ∙ three 1 8 4 (length name) 1 0 (name ++ drop (13 + length name) y)
    ∙ ap (fields (fd 1 (length name) ∷ fd 8 1 ∷ fd 4 0 ∷ [])) (ap (λ t. name ++ drop (13 + length name) t) z ∙ name_padded name h)

pub length_person : (name : List ℕ) → length (new_person name) ≡ 128
unfolding new_person
length_person name = length_fields (fd 1 (length name) ∷ fd 8 1 ∷ fd 4 0 ∷ []) (pad 115 name) ∙ (let l = length_pad 115 name in omega arith)

regroup : (a b c d : List ℕ) → a ++ (b ++ c ++ d) ≡ a ++ b ++ c ++ d
regroup a b c d = simp append_assoc

first_byte : (y r : List ℕ) → 1 ≤ length y → get_or (take 1 y ++ r) 0 0 < 256 → take 1 y ≡ in_bytes 1 (at 0 1 y) []
unfolding at number from_eight
first_byte [] r l f = absurd (omega arith)
first_byte (b ∷ ys) r l f = let e : 0 + b ≡ b = omega arith in rw e (sym (one_byte b f))

pub record_filled : (y o₁ o : List ℕ) (n h : ℕ) → length y ≡ 128 → o₁ ≡ placed 1 (eight n) y → o ≡ placed 9 (in_bytes 4 h []) o₁ → get_or o 0 0 < 256 → o ≡ new_record y n h
unfolding new_record placed
record_filled y o₁ o n h l e₁ e₂ f =
    let ln = length_eight n in
    let lh = length_in_bytes 4 h [] in
    let w₁ : Wrote 1 (eight n) y o₁ 9 = record { row = e₁; end = omega arith } in
    let w₂ = and_more w₁ (in_bytes 4 h []) o 13 (omega arith) e₂ (omega arith) in
    let o_is : o ≡ take 1 y ++ (eight n ++ in_bytes 4 h [] ++ drop 13 y) = w₂.row ∙ ap (λ k. take 1 y ++ (eight n ++ in_bytes 4 h [] ++ drop k y)) (sym w₂.end) in
    let b = first_byte y (eight n ++ in_bytes 4 h [] ++ drop 13 y) (omega arith) (rw o_is at f) in
    o_is ∙ ap (λ w. w ++ (eight n ++ in_bytes 4 h [] ++ drop 13 y)) b ∙ regroup (in_bytes 1 (at 0 1 y) []) (eight n) (in_bytes 4 h []) (drop 13 y)
    ∙ three 1 8 4 (at 0 1 y) n h (drop 13 y) ∙ ap (fields (fd 1 (at 0 1 y) ∷ fd 8 n ∷ fd 4 h ∷ [])) (sym (take_all 115 (drop 13 y) (simp length-drop (omega arith))))

record_front : (n h : ℕ) (x : List ℕ) → new_record (take 128 x) n h ≡ new_record x n h
unfolding new_record at number
record_front n h x =
    ap₂ (λ v t. fields (fd 1 (from_eight 0 v) ∷ fd 8 n ∷ fd 4 h ∷ []) t) (take-take 1 128 x (omega arith))
    (ap (take 115) (drop-take 13 115 x) ∙ take-take 115 115 (drop 13 x) (omega arith))

pub record_part : (r m n h : ℕ) (p : List ℕ) → m ≡ 128 → new_record (take m (drop (128 * r) p)) n h ≡ new_record (block r p) n h
record_part r m n h p e = rw (e, block_drop r p) (record_front n h (drop (128 * r) p))

pub length_record : (r n h : ℕ) (p : List ℕ) → 128 * r + 128 ≤ length p → length (new_record (block r p) n h) ≡ 128
unfolding new_record
length_record r n h p l =
    length_fields _ _ ∙ rw (block_drop r p) (simp (length-take, length-drop) (omega arith))

-- NAMES COMPARED
pub name_cut : (r : List ℕ) (m : ℕ) → m ≡ min (at 0 1 r) (length r - 13) → take m (drop 13 r) ≡ name_in r
name_cut r m e = let l : m ≡ min (at 0 1 r) (length (drop 13 r)) = simp length-drop e in ap (λ k. take k (drop 13 r)) l ∙ take_min (at 0 1 r) (drop 13 r)

pub same_decided : (xs ys : List ℕ) (r : Bool) → Decides r (xs ≡ ys) → r ≡ same xs ys
unfolding same
same_decided xs ys r h = let d = compares_Decides same (search rules) xs ys in search rules

-- SOMEBODY OF SO MANY
or_false : (a : Bool) → or a false ≡ a
or_false true = refl
or_false false = refl

or_assoc : (a b c : Bool) → or a (or b c) ≡ or (or a b) c
or_assoc true b c = refl
or_assoc false b c = refl

-- one more turn of a loop, and its ends
any_more : (f : ℕ → Bool) (i n : ℕ) → i < n → any f (days_from i (n - i)) ≡ or (f i) (any f (days_from (i + 1) (n - (i + 1))))
unfolding days_from
any_more f i n h =
    let e : n - i ≡ suc (n - (i + 1)) = omega arith in
    let s : suc i ≡ i + 1 = omega arith in
    rw (e, s)

pub any_passed : (f : ℕ → Bool) (i n : ℕ) → i < n → f i ≡ false → any f (days_from i (n - i)) ≡ any f (days_from (i + 1) (n - (i + 1)))
any_passed f i n h e = any_more f i n h ∙ ap (λ t. or t (any f (days_from (i + 1) (n - (i + 1))))) e

pub any_found : (f : ℕ → Bool) (i n : ℕ) → i < n → f i ≡ true → any f (days_from i (n - i)) ≡ true
any_found f i n h e = any_more f i n h ∙ ap (λ t. or t (any f (days_from (i + 1) (n - (i + 1))))) e

pub any_end : (f : ℕ → Bool) (i n : ℕ) → n ≤ i → any f (days_from i (n - i)) ≡ false
unfolding days_from
any_end f i n h = let e : n - i ≡ 0 = omega arith in rw e

any_moved : (f g : ℕ → Bool) (a b n : ℕ) → ((j : ℕ) → j < n → f (a + j) ≡ g (b + j)) → any f (days_from a n) ≡ any g (days_from b n)
unfolding days_from
any_moved f g a b zero h = refl
any_moved f g a b (suc n) h =
    ap₂ or (ap f (omega arith) ∙ h 0 (omega arith) ∙ ap g (omega arith))
    (any_moved f g (suc a) (suc b) n (λ j l. ap f (omega arith) ∙ h (suc j) (omega arith) ∙ ap g (omega arith)))

any_split : (f : ℕ → Bool) (a n m : ℕ) → any f (days_from a (n + m)) ≡ or (any f (days_from a n)) (any f (days_from (a + n) m))
unfolding days_from
any_split f a zero m = ap₂ (λ i k. any f (days_from i k)) (omega arith) (omega arith)
any_split f a (suc n) m =
    let e : suc n + m ≡ suc (n + m) = omega arith in
    let s : suc a + n ≡ a + suc n = omega arith in
    ap (λ k. any f (days_from a k)) e ∙ ap (or (f a)) (any_split f (suc a) n m ∙ ap (λ i. or (any f (days_from (suc a) n)) (any f (days_from i m))) s)
    ∙ or_assoc (f a) (any f (days_from (suc a) n)) (any f (days_from (a + suc n) m))

-- NAMES, PAGE BY PAGE
module _ (ps : List Page) (count : ℕ) (name : List ℕ) where
  abbrev here : ℕ → Bool
  here a = same (name_in (record_in ps a)) name

  on_page : (i k : ℕ) → k ≤ 4 → names_on (page_at ps (suc i)) k name ≡ any here (days_from (4 * i) k)
  unfolding names_on
  on_page i k h =
      any_moved (named (page_at ps (suc i)) name) here 0 (4 * i) k
      (λ j l. ap₂ (λ r t. same (name_in (block r (page_at ps (suc t)))) name) (omega arith) (omega arith))

  one_page : (i : ℕ) (t : Bool) → leb 4 (count - 4 * i) ≡ t → (r : Bool) → r ≡ any here (days_from (4 * suc i) (count - 4 * suc i)) →
      or (names_on (page_at ps (suc i)) (pick t 4 (count - 4 * i)) name) r ≡ any here (days_from (4 * i) (count - 4 * i))
  one_page i true e r rest =
      let l = leb-true 4 (count - 4 * i) e in
      let s : 4 * suc i ≡ 4 * i + 4 = omega arith in
      let n : 4 + (count - 4 * suc i) ≡ count - 4 * i = omega arith in
      ap₂ or (on_page i 4 (omega arith)) (rest ∙ ap (λ k. any here (days_from k (count - 4 * suc i))) s)
      ∙ sym (any_split here (4 * i) 4 (count - 4 * suc i)) ∙ ap (λ k. any here (days_from (4 * i) k)) n
  one_page i false e r rest =
      let l = leb-false 4 (count - 4 * i) e in
      ap₂ or (on_page i (count - 4 * i) (omega arith)) (rest ∙ any_end here (4 * suc i) count (omega arith)) ∙ or_false (any here (days_from (4 * i) (count - 4 * i)))

  from_on : (j i : ℕ) → count ≤ 4 * (i + j) → names_from j ps count i name ≡ any here (days_from (4 * i) (count - 4 * i))
  unfolding names_from
  from_on zero i h = sym (any_end here (4 * i) count (omega arith))
  from_on (suc j) i h = one_page i (leb 4 (count - 4 * i)) refl (names_from j ps count (suc i) name) (from_on j (suc i) (omega arith))

  -- names found page by page are names found at all
  pub names_all : names_from ((count + 3) / 4) ps count 0 name ≡ names_in ps count name
  unfolding names_in
  names_all =
      let e : count - 4 * 0 ≡ count = omega arith in
      from_on ((count + 3) / 4) 0 (omega arith) ∙ ap (λ k. any here (days_from 0 k)) e

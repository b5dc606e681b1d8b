-- A part of a row placed, and what any part holds afterwards.
use Rattle.std.proofs.Common.{◌≡◌, ℕ, zero, suc, ◌+◌, ◌-◌, ◌%◌, ◌≤◌, Bool, true, List, [], ◌∷◌, ◌++◌, length, take, drop, sym, refl, ap, ◌∙◌, arith, length-drop, length-take}
use borrow.Rule.Slice.PartMut.{put_mid}
use Rattle.std.proofs.lemmas.List.{append_assoc, drop-drop, drop_at, drop-take, drop-append-le, take_at, take-take, take-append-le, take-append-drop, length-append, length-take-le}
use Rattle.std.proofs.lemmas.Bool.{and_from, and_parts, ltb-true}
use Rattle.pages.specs.Lists.{every}
use Rattle.pages.specs.Bytes.{all_bytes, low_bytes, over, placed}

-- a part that is lent and overwritten in front
pub placed_over : (k m : ℕ) (w xs ys : List ℕ) → k + m ≤ length xs → length w ≤ m → ys ≡ over w (take m (drop k xs)) → put_mid k m xs ys ≡ placed k w xs
unfolding placed
placed_over k m w xs ys h l e =
    let t : length (take m (drop k xs)) ≡ m = simp (length-take, length-drop) (omega arith) in
    let d : drop (length w) (take m (drop k xs)) ++ drop m (drop k xs) ≡ drop (k + length w) xs =
    sym (drop-append-le (length w) (take m (drop k xs)) (drop m (drop k xs)) (omega arith)) ∙ ap (drop (length w)) (take-append-drop m (drop k xs)) ∙ drop-drop (length w) k xs in
    rw e (ap (λ z. take k xs ++ z) (append_assoc w (drop (length w) (take m (drop k xs))) (drop m (drop k xs)) ∙ ap (λ z. w ++ z) d))

-- or changed as a whole
pub placed_whole : (k m : ℕ) (xs ys : List ℕ) → length ys ≡ m → put_mid k m xs ys ≡ placed k ys xs
unfolding placed
placed_whole k m xs ys l = rw (drop-drop m k xs, sym l)

pub length_placed : (k : ℕ) (w m : List ℕ) → k + length w ≤ length m → length (placed k w m) ≡ length m
unfolding placed
length_placed k w m h = simp (length-append, length-take, length-drop) (omega arith)

front : (k : ℕ) (w m : List ℕ) → k ≤ length m → length (take k m ++ w) ≡ k + length w
front k w m h = length-append (take k m) w ∙ ap (λ n. n + length w) (length-take-le k m h)

-- the part itself
pub part_same : (k n : ℕ) (w m : List ℕ) → length w ≡ n → k ≤ length m → take n (drop k (placed k w m)) ≡ w
unfolding placed
part_same k n w m l h = ap (take n) (drop_at (take k m) (w ++ drop (k + length w) m) k (length-take-le k m h)) ∙ take_at w (drop (k + length w) m) n l

-- a part before it
pub part_below : (a n k : ℕ) (w m : List ℕ) → a + n ≤ k → k ≤ length m → take n (drop a (placed k w m)) ≡ take n (drop a m)
unfolding placed
part_below a n k w m h l =
    let t : length (take k m) ≡ k = length-take-le k m l in
    let e : a + (k - a) ≡ k = omega arith in
    let d : drop a (take k m) ≡ take (k - a) (drop a m) = ap (λ j. drop a (take j m)) (sym e) ∙ drop-take a (k - a) m in
    let u : n ≤ length (drop a (take k m)) = simp length-drop (omega arith) in
    ap (take n) (drop-append-le a (take k m) (w ++ drop (k + length w) m) (omega arith)) ∙ take-append-le n (drop a (take k m)) (w ++ drop (k + length w) m) u
    ∙ ap (take n) d ∙ take-take n (k - a) (drop a m) (omega arith)

-- all behind it
pub drop_above : (a k : ℕ) (w m : List ℕ) → k + length w ≤ a → k ≤ length m → drop a (placed k w m) ≡ drop a m
unfolding placed
drop_above a k w m h l =
    let j : ℕ = a - (k + length w) in
    let e : j + (k + length w) ≡ a = omega arith in
    ap (drop a) (sym (append_assoc (take k m) w (drop (k + length w) m))) ∙ ap (λ i. drop i ((take k m ++ w) ++ drop (k + length w) m)) (sym e ∙ omega arith)
    ∙ sym (drop-drop j (k + length w) ((take k m ++ w) ++ drop (k + length w) m)) ∙ ap (drop j) (drop_at (take k m ++ w) (drop (k + length w) m) (k + length w) (front k w m l))
    ∙ drop-drop j (k + length w) m ∙ ap (λ i. drop i m) (omega arith)

pub part_above : (a n k : ℕ) (w m : List ℕ) → k + length w ≤ a → k ≤ length m → take n (drop a (placed k w m)) ≡ take n (drop a m)
part_above a n k w m h l = ap (take n) (drop_above a k w m h l)

-- a test of every element
every_append : (p : ℕ → Bool) (xs ys : List ℕ) → every p xs ≡ true → every p ys ≡ true → every p (xs ++ ys) ≡ true
every_append p [] ys h k = k
every_append p (x ∷ xs) ys h k = let q = and_parts _ _ h in and_from _ _ q.0 (every_append p xs ys q.1 k)

every_take : (p : ℕ → Bool) (n : ℕ) (xs : List ℕ) → every p xs ≡ true → every p (take n xs) ≡ true
every_take p zero xs h = refl
every_take p (suc n) [] h = refl
every_take p (suc n) (x ∷ xs) h = let q = and_parts _ _ h in and_from _ _ q.0 (every_take p n xs q.1)

pub every_drop : (p : ℕ → Bool) (n : ℕ) (xs : List ℕ) → every p xs ≡ true → every p (drop n xs) ≡ true
every_drop p zero xs h = h
every_drop p (suc n) [] h = refl
every_drop p (suc n) (x ∷ xs) h = every_drop p n xs (and_parts _ _ h).1

pub every_placed : (p : ℕ → Bool) (k : ℕ) (w m : List ℕ) → every p w ≡ true → every p m ≡ true → every p (placed k w m) ≡ true
unfolding placed
every_placed p k w m h l = every_append p (take k m) (w ++ drop (k + length w) m) (every_take p k m l) (every_append p w (drop (k + length w) m) h (every_drop p (k + length w) m l))

-- TWO PARTS PLACED
placed_front : (w m : List ℕ) → placed 0 w m ≡ over w m
unfolding placed
placed_front w m = ap (λ i. w ++ drop i m) (let e : 0 + length w ≡ length w = omega arith in e)

placed_cons : (k x : ℕ) (w m : List ℕ) → placed (suc k) w (x ∷ m) ≡ x ∷ placed k w m
unfolding placed
placed_cons k x w m = ap (λ i. x ∷ (take k m ++ (w ++ drop i (x ∷ m)))) (let e : suc k + length w ≡ suc (k + length w) = omega arith in e)

swap_front : (v w m : List ℕ) (k : ℕ) → length v ≤ k → length v ≤ length m → placed k w (over v m) ≡ over v (placed k w m)
swap_front [] w m k h l = refl
swap_front (y ∷ v) w m zero h l = let no : ⊥ = omega arith in absurd no
swap_front (y ∷ v) w [] (suc k) h l = let no : ⊥ = omega arith in absurd no
swap_front (y ∷ v) w (x ∷ m) (suc k) h l =
    placed_cons k y w (over v m) ∙ ap (λ z. y ∷ z) (swap_front v w m k (omega arith) (omega arith)) ∙ ap (over (y ∷ v)) (sym (placed_cons k x w m))

-- at places that do not meet, in either order
pub placed_swap : (j k : ℕ) (v w m : List ℕ) → j + length v ≤ k → k ≤ length m → placed k w (placed j v m) ≡ placed j v (placed k w m)
placed_swap zero k v w m h l = ap (placed k w) (placed_front v m) ∙ swap_front v w m k (omega arith) (omega arith) ∙ sym (placed_front v (placed k w m))
placed_swap (suc j) zero v w m h l = let no : ⊥ = omega arith in absurd no
placed_swap (suc j) (suc k) v w [] h l = let no : ⊥ = omega arith in absurd no
placed_swap (suc j) (suc k) v w (x ∷ m) h l =
    ap (placed (suc k) w) (placed_cons j x v m) ∙ placed_cons k x w (placed j v m) ∙ ap (λ z. x ∷ z) (placed_swap j k v w m (omega arith) (omega arith))
    ∙ sym (placed_cons j x v (placed k w m)) ∙ ap (placed (suc j) v) (sym (placed_cons k x w m))

-- at the same place, the later one stays
pub placed_again : (k : ℕ) (v w m : List ℕ) → length w ≡ length v → k ≤ length m → placed k w (placed k v m) ≡ placed k w m
placed_again zero v w m e l =
    placed_front w (placed 0 v m) ∙ ap (over w) (placed_front v m) ∙ ap (λ z. w ++ z) (ap (λ i. drop i (over v m)) e ∙ drop_at v (drop (length v) m) (length v) refl ∙ ap (λ i. drop i m) (sym e))
    ∙ sym (placed_front w m)
placed_again (suc k) v w [] e l = let no : ⊥ = omega arith in absurd no
placed_again (suc k) v w (x ∷ m) e l =
    ap (placed (suc k) w) (placed_cons k x v m) ∙ placed_cons k x w (placed k v m) ∙ ap (λ z. x ∷ z) (placed_again k v w m e (omega arith)) ∙ sym (placed_cons k x w m)

-- bytes are their own low bytes
pub low_bytes_same : (bs : List ℕ) → all_bytes bs ≡ true → low_bytes bs ≡ bs
low_bytes_same [] h = refl
low_bytes_same (b ∷ bs) h =
    let q = and_parts _ _ h in
    let l = ltb-true b 256 q.0 in
    let e : b % 256 ≡ b = omega arith in
    rw (e, low_bytes_same bs q.1)

-- The front of a row overwritten, element by element, and by numbers of eight bytes.
use Rattle.std.proofs.Common.{◌≡◌, ℕ, zero, suc, ◌+◌, ◌*◌, ◌<◌, ◌≤◌, List, [], ◌∷◌, ◌++◌, map, length, get_or, take, drop, set, replicate, sym, refl, ap, ◌∙◌, arith}
use borrow.Rule.Slice.PartMut.{put_mid}
use Rattle.std.proofs.lemmas.List.{take_more, take_all, drop_more, set_at, length-append, append_assoc, append-nil, length-take-le, length-map, map_more, drop-drop, drop_at, take_at}
use Rattle.pages.specs.Lists.{flat}
use Rattle.pages.specs.Bytes.{eight, over}
use Rattle.pages.specs.Device.{zeros}
use Rattle.pages.proofs.ByteLists.{length_eight}
use Rattle.pages.proofs.Fields.{length_zeros}

pub over_more : (xs ys : List ℕ) (i : ℕ) → i < length xs → i < length ys → set (take i xs ++ drop i ys) i (get_or xs i 0) ≡ take (i + 1) xs ++ drop (i + 1) ys
over_more xs ys i h k =
    let t : length (take i xs) ≡ i = length-take-le i xs (omega arith) in
    rw (take_more xs i 0 h, drop_more ys i 0 k, set_at (take i xs) (get_or ys i 0) (drop (i + 1) ys) (get_or xs i 0) i t, append_assoc)

pub over_map_more : {A B : Type 0} (f : A → B) (xs : List A) (ys : List B) (i : ℕ) (d : A) (e : B) → i < length xs → i < length ys →
    set (map f (take i xs) ++ drop i ys) i (f (get_or xs i d)) ≡ map f (take (i + 1) xs) ++ drop (i + 1) ys
over_map_more f xs ys i d e h k =
    let t : length (map f (take i xs)) ≡ i = length-map (take i xs) f ∙ length-take-le i xs (omega arith) in
    rw (map_more f xs i d h, drop_more ys i e k, set_at (map f (take i xs)) (get_or ys i e) (drop (i + 1) ys) (f (get_or xs i d)) i t, append_assoc)

-- eight bytes for each number
pub length_eights : (ns : List ℕ) → length (flat eight ns) ≡ 8 * length ns
length_eights [] = refl
length_eights (n ∷ ns) = let l = length_eight n in let e = length_eights ns in let a = length-append (eight n) (flat eight ns) in omega arith

pub eights_push : (ns : List ℕ) (n : ℕ) → flat eight (ns ++ n ∷ []) ≡ flat eight ns ++ eight n
eights_push [] n = append-nil (eight n)
eights_push (m ∷ ns) n = rw (eights_push ns n) (sym (append_assoc (eight m) (flat eight ns) (eight n)))

pub eights_more : (ns xs old ys : List ℕ) (i k : ℕ) → i < length ns → 8 * length ns ≤ length old → xs ≡ flat eight (take i ns) ++ drop (8 * i) old → k ≡ 8 → ys ≡ eight (get_or ns i 0) →
    put_mid (8 * i) k xs ys ≡ flat eight (take (i + 1) ns) ++ drop (8 * (i + 1)) old
eights_more ns xs old ys i k h l e ke y =
    let le : length (flat eight (take i ns)) ≡ 8 * i = length_eights (take i ns) ∙ ap (λ j. 8 * j) (length-take-le i ns (omega arith)) in
    let t : take (8 * i) xs ≡ flat eight (take i ns) = rw e (take_at _ _ _ le) in
    let d : drop (8 * i) xs ≡ drop (8 * i) old = rw e (drop_at _ _ _ le) in
    let q : drop k (drop (8 * i) xs) ≡ drop (8 * (i + 1)) old = rw (ke, d, drop-drop) (ap (λ j. drop j old) (omega arith)) in
    let p : flat eight (take (i + 1) ns) ≡ flat eight (take i ns) ++ eight (get_or ns i 0) = rw (take_more ns i 0 h) (eights_push _ _) in
    rw (t, y, q, p) (sym (append_assoc (flat eight (take i ns)) (eight (get_or ns i 0)) _))

pub eights_all : (ns xs old : List ℕ) (i : ℕ) → length ns ≤ i → i ≤ length ns → xs ≡ flat eight (take i ns) ++ drop (8 * i) old → xs ≡ over (flat eight ns) old
eights_all ns xs old i h l e =
    let n : 8 * i ≡ length (flat eight ns) = simp length_eights (omega arith) in
    e ∙ rw (take_all i ns h, n)

-- a blank front
zeros_are : (n : ℕ) → zeros n ≡ replicate n 0
unfolding zeros
zeros_are zero = refl
zeros_are (suc n) = ap (λ z. 0 ∷ z) (zeros_are n)

pub blank_over : (z ys : List ℕ) → z ≡ replicate 512 0 → z ++ drop 512 ys ≡ over (zeros 512) ys
blank_over z ys e = ap (λ w. w ++ drop 512 ys) (e ∙ sym (zeros_are 512)) ∙ ap (λ n. zeros 512 ++ drop n ys) (sym (length_zeros 512))

-- Bytes written into a row, one part behind the other.
use Rattle.std.proofs.Common.{◌≡◌, ℕ, ◌+◌, ◌<◌, ◌≤◌, List, [], ◌∷◌, ◌++◌, length, take, drop, set, sym, ap, ◌∙◌, add-one, arith}
use borrow.Rule.Slice.PartMut.{put_mid}
use Rattle.std.proofs.lemmas.List.{append_assoc, drop-drop, drop_at, take_at, set_split, length-append, length-take-le, take-append-drop}
use Rattle.pages.specs.Bytes.{over, placed}

pub placed_byte : (k b : ℕ) (xs : List ℕ) → k < length xs → set xs k b ≡ placed k (b ∷ []) xs
unfolding placed
placed_byte k b xs h = rw (add-one k) (set_split xs k b h)

-- a part lent and filled is that part overwritten
pub placed_bytes : (k m : ℕ) (w xs ys : List ℕ) → m ≡ length w → ys ≡ w → put_mid k m xs ys ≡ placed k w xs
unfolding placed
placed_bytes k m w xs ys e y = rw (y, drop-drop m k xs, e)

pub placed_front : (w ys : List ℕ) → placed 0 w ys ≡ over w ys
unfolding placed
placed_front w ys = let e : 0 + length w ≡ length w = omega arith in rw e

-- one more behind what was placed
pub more_at : (k j : ℕ) (w v ys o o₁ : List ℕ) → k ≤ length ys → o ≡ placed k w ys → j ≡ k + length w → o₁ ≡ placed j v o → o₁ ≡ placed k (w ++ v) ys
unfolding placed
more_at k j w v ys o o₁ h e l p =
    let f : List ℕ = take k ys ++ w in
    let lf : length (take k ys ++ w) ≡ j = length-append (take k ys) w ∙ ap (λ n. n + length w) (length-take-le k ys h) ∙ sym l in
    let o_is : o ≡ f ++ drop (k + length w) ys = e ∙ sym (append_assoc (take k ys) w (drop (k + length w) ys)) in
    let t : take j o ≡ f = ap (take j) o_is ∙ take_at f (drop (k + length w) ys) j lf in
    let d0 : drop j o ≡ drop (k + length w) ys = ap (drop j) o_is ∙ drop_at f (drop (k + length w) ys) j lf in
    let n : k + length w + length v ≡ k + length (w ++ v) = let q = length-append w v in omega arith in
    let d : drop (j + length v) o ≡ drop (k + length (w ++ v)) ys =
    sym (drop-drop (length v) j o) ∙ ap (drop (length v)) d0 ∙ drop-drop (length v) (k + length w) ys ∙ ap (λ m. drop m ys) n in
    p ∙ rw (t, d) (append_assoc (take k ys) w (v ++ drop (k + length (w ++ v)) ys) ∙ ap (λ u. take k ys ++ u) (sym (append_assoc w v (drop (k + length (w ++ v)) ys))))

-- what was written so far from a place on, and where it ends
pub record Wrote (k : ℕ) (w ys o : List ℕ) (j : ℕ) : Type 0 where
  pub row : o ≡ placed k w ys
  pub end : j ≡ k + length w

pub and_more : {k j : ℕ} {w ys o : List ℕ} → Wrote k w ys o j → (v o₁ : List ℕ) (i : ℕ) → k ≤ length ys → o₁ ≡ placed j v o → i ≡ j + length v → Wrote k (w ++ v) ys o₁ i
and_more {k} {j} {w} {ys} {o} a v o₁ i h p e =
    let l : k + length w + length v ≡ k + length (w ++ v) = let q = length-append w v in omega arith in
    record { row = more_at k j w v ys o o₁ h a.row a.end p; end = e ∙ ap (λ n. n + length v) a.end ∙ l }

pub placed_none : (k : ℕ) (ys : List ℕ) → ys ≡ placed k [] ys
unfolding placed
placed_none k ys = let e : k + 0 ≡ k = omega arith in rw e (sym (take-append-drop k ys))

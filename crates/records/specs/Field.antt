-- A number of so many bytes, read by a function of the text and a place, within bounds: those of eight bytes and of one byte are such.
-- Assumes nothing: a definition, and what is proved of it.
use Rattle.std.specs.Prelude.{◌≡◌, ℕ, ◌+◌, Bool, true, false, cond, ◌&&◌, List, length, Some, None, Option, nat_eq, nat_le, nat_lt, slice_index, refl}
use Rattle.std.specs.Ordering.{partial_le, nat_cmp}
use Rattle.std.proofs.Common.{add-one, arith}
use Rattle.std.proofs.lemmas.Bool.{le-leb, lt-leb, ltb-true, ltb-false, eqb-true, eqb-false}
use Rattle.records.specs.Reader.{number_at, wide, narrow}

abbrev pub field : {A : Type 0} → ℕ → (List ℕ → ℕ → A) → (A → A → Bool) → A → A → List ℕ → ℕ → Option (A × ℕ)
field w read le lo hi t k = cond (nat_le (k + w) (length t) && (le lo (read t k) && le (read t k) hi)) (Some (read t k, k + w)) None

abbrev ordered : ℕ → ℕ → Bool
ordered = partial_le (λ x y. Some (nat_cmp x y))

ordered_is : (a b : ℕ) → nat_le a b ≡ ordered a b
ordered_is a b = go (nat_lt a b) refl (nat_eq a b) refl
  where
    go : (l : Bool) → nat_lt a b ≡ l → (e : Bool) → nat_eq a b ≡ e → nat_le a b ≡ ordered a b
    go true l e q = rw (l, le-leb a b (let h = ltb-true a b l in omega arith)) refl
    go false l true q = rw (l, q, le-leb a b (let h = eqb-true a b q in omega arith)) refl
    go false l false q = rw (l, q, lt-leb a b (let h = ltb-false a b l in let n = eqb-false a b q in omega arith)) refl

pub wide_is : (lo hi : ℕ) (t : List ℕ) (k : ℕ) → wide lo hi t k ≡ field 8 number_at ordered lo hi t k
unfolding wide
wide_is lo hi t k = rw (ordered_is lo (number_at t k), ordered_is (number_at t k) hi) refl

pub narrow_is : (lo hi : ℕ) (t : List ℕ) (k : ℕ) → narrow lo hi t k ≡ field 1 slice_index ordered lo hi t k
unfolding narrow
narrow_is lo hi t k = rw (add-one k, ordered_is lo (slice_index t k), ordered_is (slice_index t k) hi) refl

-- Weekdays marked one after the other, by rising number.
use Rattle.std.proofs.Common.{◌≡◌, ℕ, zero, suc, ◌+◌, ◌<◌, ◌≤◌, Bool, true, false, eqb, List, [], ◌∷◌, ◌++◌, length, get_or, set, refl, ap, ◌∙◌, arith}
use Rattle.std.proofs.lemmas.Bool.{eq-eqb, ne_eqb}
use Rattle.recurrence.specs.Event.{has}
use Rattle.recurrence.specs.Week.{flags, places, days_of, with_day, no_days}
use Rattle.recurrence.specs.declared.event.Weekdays.{Weekdays}

pub flags_with : (n : ℕ) (w : Weekdays) → flags (with_day n w) ≡ set (flags w) n true
flags_with zero w = refl
flags_with (suc zero) w = refl
flags_with (suc (suc zero)) w = refl
flags_with (suc (suc (suc zero))) w = refl
flags_with (suc (suc (suc (suc zero)))) w = refl
flags_with (suc (suc (suc (suc (suc zero))))) w = refl
flags_with (suc (suc (suc (suc (suc (suc zero)))))) w = refl
flags_with (suc (suc (suc (suc (suc (suc (suc n))))))) w =
    let k : ℕ = suc (suc (suc (suc (suc (suc (suc n)))))) in
    simp (ne_eqb k 0 (omega arith), ne_eqb k 1 (omega arith), ne_eqb k 2 (omega arith), ne_eqb k 3 (omega arith), ne_eqb k 4 (omega arith), ne_eqb k 5 (omega arith), ne_eqb k 6 (omega arith))

pub none_marked : (j : ℕ) → get_or (flags no_days) j false ≡ false
none_marked zero = refl
none_marked (suc zero) = refl
none_marked (suc (suc zero)) = refl
none_marked (suc (suc (suc zero))) = refl
none_marked (suc (suc (suc (suc zero)))) = refl
none_marked (suc (suc (suc (suc (suc zero))))) = refl
none_marked (suc (suc (suc (suc (suc (suc zero)))))) = refl
none_marked (suc (suc (suc (suc (suc (suc (suc j))))))) = refl

places_none : (k : ℕ) (bs : List Bool) → ((j : ℕ) → get_or bs j false ≡ false) → places k bs ≡ []
unfolding places
places_none k [] h = refl
places_none k (true ∷ bs) h = let e : true ≡ false = h 0 in absurd (let no : ◌≡◌ {A = ℕ} 0 1 = cc in omega arith)
places_none k (false ∷ bs) h = places_none (suc k) bs (λ j. h (suc j))

-- what is marked past all others comes last
pub places_set : (k i : ℕ) (bs : List Bool) → i < length bs → ((j : ℕ) → i ≤ j → get_or bs j false ≡ false) → places k (set bs i true) ≡ places k bs ++ ((k + i) ∷ [])
unfolding places
places_set k i [] l h = absurd (omega arith)
places_set k zero (b ∷ bs) l h =
    let e : b ≡ false = h 0 (omega arith) in
    let r : places (suc k) bs ≡ [] = places_none (suc k) bs (λ j. h (suc j) (omega arith)) in
    let z : k + 0 ≡ k = omega arith in
    rw (e, r, z)
places_set k (suc i) (true ∷ bs) l h =
    let z : suc k + i ≡ k + suc i = omega arith in
    ap (λ u. k ∷ u) (places_set (suc k) i bs (omega arith) (λ j q. h (suc j) (omega arith)) ∙ rw z)
places_set k (suc i) (false ∷ bs) l h =
    let z : suc k + i ≡ k + suc i = omega arith in
    places_set (suc k) i bs (omega arith) (λ j q. h (suc j) (omega arith)) ∙ rw z

pub none_days : days_of no_days ≡ []
unfolding days_of places
none_days = refl

-- a number is among the places of what is true just where that is true
not_before : (bs : List Bool) (i j : ℕ) → j < i → has (places i bs) j ≡ false
unfolding places
not_before [] i j h = refl
not_before (true ∷ bs) i j h =
    let e : eqb j i ≡ false = ne_eqb j i (omega arith) in
    rw (e, not_before bs (suc i) j (omega arith))
not_before (false ∷ bs) i j h = not_before bs (suc i) j (omega arith)

has_places : (bs : List Bool) (i k : ℕ) → has (places i bs) (i + k) ≡ get_or bs k false
unfolding places
has_places [] i k = refl
has_places (true ∷ bs) i zero = let e : eqb (i + 0) i ≡ true = eq-eqb (i + 0) i (omega arith) in rw e
has_places (false ∷ bs) i zero = not_before bs (suc i) (i + 0) (omega arith)
has_places (true ∷ bs) i (suc k) =
    let e : eqb (i + suc k) i ≡ false = ne_eqb (i + suc k) i (omega arith) in
    let a : i + suc k ≡ suc i + k = omega arith in
    rw e (ap (has (places (suc i) bs)) a ∙ has_places bs (suc i) k)
has_places (false ∷ bs) i (suc k) = let a : i + suc k ≡ suc i + k = omega arith in ap (has (places (suc i) bs)) a ∙ has_places bs (suc i) k

pub has_day : (w : Weekdays) (k : ℕ) → has (days_of w) k ≡ get_or (flags w) k false
unfolding days_of
has_day w k = let a : k ≡ 0 + k = omega arith in ap (has (places 0 (flags w))) a ∙ has_places (flags w) 0 k

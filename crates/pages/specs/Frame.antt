-- What a crash framework says, for any engine, any plain house and any pair of relations. Assumes nothing.
use Rattle.std.specs.Prelude.{◌≡◌, ℕ, suc, ◌<◌, Bool, true, false, ◌⊎◌, List, [], ◌++◌, length}
use Rattle.pages.specs.Run.{Engine, World, Ran, Item, woken, ran_as, dark, without, proper_so, Right}

-- one of two
abbrev pub One : {S : Type 0} → S → S → S → Type 0
One c a b = (c ≡ a) ⊎ (c ≡ b)

abbrev pub Rule : Type 0 → Type 1
Rule S = S → List ℕ → List (List ℕ) → ℕ → ℕ → S → Type 0

-- how a command may stand at a stop: ended, or still running with an end in sight
pub record Ended {S : Type 0} (may : Rule S) (Off : World → S → S → Bool → Type 0) (s : S) (t : List ℕ) (g : Ran) (c : ℕ) : Type 0 where
  pub after : S
  pub told : may s t g.showed g.pages_used g.end after
  pub left : Off (dark g.here c) after after true

pub record Midway {S : Type 0} (may : Rule S) (Off : World → S → S → Bool → Type 0) (s : S) (t : List ℕ) (g : Ran) (c : ℕ) : Type 0 where
  pub running : g.end ≡ 1000
  pub more : List (List ℕ)
  pub used : ℕ
  pub reply : ℕ
  pub after : S
  pub told : may s t (g.showed ++ more) used reply after
  pub one : S
  pub other : S
  pub one_is : One one s after
  pub other_is : One other s after
  pub left : Off (dark g.here c) one other true

-- what is owed of an engine; the number is how many more items there may be, for what grows with each
pub record Owed {S : Type 0} (may : Rule S) (e : Engine) (Up : ℕ → World → S → Type 0) (Off : ℕ → World → S → S → Bool → Type 0) : Type 0 where
  pub wakes : (i : ℕ) (v : World) (a b : S) (both : Bool) → Off (suc i) v a b both →
      (n : ℕ) × (c : S) × One c a b × ((woken e n v).end ≡ 0) × ((woken e n v).showed ≡ []) × Up i (woken e n v).here c
  pub waking : (i : ℕ) (v : World) (a b : S) (both : Bool) → Off (suc i) v a b both → (n c : ℕ) →
      (((woken e n v).end ≡ 0) ⊎ ((woken e n v).end ≡ 1000)) × ((woken e n v).showed ≡ [])
      × (a₁ : S) × (b₁ : S) × One a₁ a b × One b₁ a b × Off i (dark (woken e n v).here c) a₁ b₁ both
  pub losing : (i : ℕ) (v : World) (a b : S) → Off (suc i) v a b true → (k : ℕ) → k < 2 → (c : S) × One c a b × Off i (without v k) c c false
  pub answers : (i : ℕ) (v : World) (s : S) → Up (suc i) v s → (t : List ℕ) →
      (n : ℕ) × (s₁ : S) × may s t (ran_as e n v t).showed (ran_as e n v t).pages_used (ran_as e n v t).end s₁ × Up i (ran_as e n v t).here s₁
  pub answering : (i : ℕ) (v : World) (s : S) → Up (suc i) v s → (t : List ℕ) (n c : ℕ) →
      Ended may (Off i) s t (ran_as e n v t) c ⊎ Midway may (Off i) s t (ran_as e n v t) c

-- a run of items right from a world with power, and from one without
unfoldable pub UpRight : {S : Type 0} → Rule S → Engine → (ℕ → World → S → Type 0) → List Item → Type 0
UpRight {S} may e Up is = (v : World) (s : S) → Up (length is) v s → proper_so true true is ≡ true → Right may (λ x. x) e v s is

unfoldable pub OffRight : {S : Type 0} → Rule S → Engine → (ℕ → World → S → S → Bool → Type 0) → List Item → Type 0
OffRight {S} may e Off is =
    (v : World) (a b : S) (both : Bool) → Off (length is) v a b both → proper_so false both is ≡ true → (s : S) × One s a b × Right may (λ x. x) e v s is

abbrev pub Framework : Type 1
Framework =
    (S : Type 0) (may : Rule S) (e : Engine) (Up : ℕ → World → S → Type 0) (Off : ℕ → World → S → S → Bool → Type 0) → Owed may e Up Off →
    (is : List Item) → UpRight may e Up is × OffRight may e Off is

-- from one plain house to a plainer one: what the first may do, the second may, and they stay beside each other
abbrev pub Refines : {S W : Type 0} → Rule S → Rule W → (ℕ → S → W → Type 0) → Type 0
Refines {S} {W} may may₂ Beside =
    ((i : ℕ) (s : S) (w : W) → Beside (suc i) s w → Beside i s w)
    × ((i : ℕ) (s : S) (w : W) (t : List ℕ) (ss : List (List ℕ)) (r reply : ℕ) (s₁ : S) → Beside (suc i) s w → may s t ss r reply s₁ →
    (w₁ : W) × may₂ w t ss r reply w₁ × Beside i s₁ w₁)

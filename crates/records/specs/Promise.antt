-- What is promised of commands. Each is a statement, a type whose proof is owed. Assumes nothing.
use Rattle.std.specs.Prelude.{◌≡◌, ℕ, ◌+◌, ◌*◌, ◌<◌, ◌≤◌, Bool, true, false, ◌⊎◌, List, [], ◌∷◌}
use Rattle.pages.specs.Lists.{any}
use Rattle.pages.specs.Promise.{Never}
use Rattle.recurrence.specs.Span.{Span, meets}
use Rattle.records.specs.Command.{Command, fits, spelled}
use Rattle.records.specs.House.{Plain, Turn, first_free, turn, weight}

unfoldable pub Said : List ℕ → Command → Type 0
Said text c = (spelled c ≡ text) × (fits c ≡ true)

-- 1. No two commands are spelled alike.
unfoldable pub SpelledOnce : Type 0
SpelledOnce = (a c : Command) → fits a ≡ true → fits c ≡ true → spelled a ≡ spelled c → a ≡ c

-- a command that is known: the plain house's turn; or no room, only if more is then to be kept than before, and than a quarter of one side's
-- pages hold
unfoldable pub TurnMay : ℕ → Plain → Turn → List (List ℕ) → ℕ → Plain → Type 0
TurnMay pages w t ss reply w₁ =
    ((reply ≡ t.reply) × (ss ≡ t.shows) × (w₁ ≡ t.next))
    ⊎ ((reply ≡ 8) × (ss ≡ []) × (w₁ ≡ w) × (t.reply ≡ 0) × (weight w < weight t.next) × (128 * pages < weight t.next))

unfoldable pub May : (Command → Bool) → ℕ → Plain → List ℕ → List (List ℕ) → ℕ → ℕ → Plain → Type 0
May known pages w text ss r reply w₁ =
    ((a : Command) × Said text a × (known a ≡ true) × TurnMay pages w (turn w a) ss reply w₁)
    ⊎ (((a : Command) × Said text a × (known a ≡ false) × (reply ≡ 2) × (ss ≡ []) × (w₁ ≡ w))
    ⊎ (((a : Command) → Said text a → Never) × (reply ≡ 1) × (ss ≡ []) × (w₁ ≡ w)))

-- 8. The first free time is free, and none before it by fives is.
unfoldable pub FreeFirst : Type 0
FreeFirst =
    (ss : List Span) (k t u n v : ℕ) → first_free ss k t u n ≡ v ∷ [] →
    (any (meets v (v + k)) ss ≡ false) × (v + k ≤ u) × ((j : ℕ) → t + 5 * j < v → any (meets (t + 5 * j) (t + 5 * j + k)) ss ≡ true)

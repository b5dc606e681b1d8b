-- Weekdays of the code, by number from 0 for Monday. Assumes nothing: these are definitions.
use Rattle.std.specs.Prelude.{ℕ, suc, Bool, true, false, cond, List, [], ◌∷◌, ◌==◌}
use Rattle.pages.specs.Lists.{pick}
use Rattle.recurrence.specs.declared.event.Weekdays.{Weekdays}

abbrev pub week_of : Bool → Bool → Bool → Bool → Bool → Bool → Bool → Weekdays
week_of a b c d e f g = record { monday = a; tuesday = b; wednesday = c; thursday = d; friday = e; saturday = f; sunday = g }

abbrev pub flags : Weekdays → List Bool
flags w = w.monday ∷ w.tuesday ∷ w.wednesday ∷ w.thursday ∷ w.friday ∷ w.saturday ∷ w.sunday ∷ []

-- the places of what is true, from one on
unfoldable pub places : ℕ → List Bool → List ℕ
places k [] = []
places k (b ∷ bs) = pick b (k ∷ places (suc k) bs) (places (suc k) bs)

-- the numbers of weekdays, rising
unfoldable pub days_of : Weekdays → List ℕ
days_of w = places 0 (flags w)

abbrev pub no_days : Weekdays
no_days = week_of false false false false false false false

-- these and one more
abbrev pub with_day : ℕ → Weekdays → Weekdays
with_day n w =
    cond (n == 0) (week_of true w.tuesday w.wednesday w.thursday w.friday w.saturday w.sunday)
    (cond (n == 1) (week_of w.monday true w.wednesday w.thursday w.friday w.saturday w.sunday)
    (cond (n == 2) (week_of w.monday w.tuesday true w.thursday w.friday w.saturday w.sunday)
    (cond (n == 3) (week_of w.monday w.tuesday w.wednesday true w.friday w.saturday w.sunday)
    (cond (n == 4) (week_of w.monday w.tuesday w.wednesday w.thursday true w.saturday w.sunday)
    (cond (n == 5) (week_of w.monday w.tuesday w.wednesday w.thursday w.friday true w.sunday)
    (cond (n == 6) (week_of w.monday w.tuesday w.wednesday w.thursday w.friday w.saturday true) w))))))

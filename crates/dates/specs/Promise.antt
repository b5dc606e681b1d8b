-- What is promised of days and clocks. Each is a statement, a type whose proof is owed. Assumes nothing.
use Rattle.std.specs.Prelude.{◌≡◌, ℕ, suc, ◌+◌, ◌/◌, ◌%◌, ◌<◌, ◌≤◌, Bool, true, not, ◌&&◌, ◌⊎◌, ◌==◌}
use Rattle.pages.specs.Lists.{or, pick}
use Rattle.dates.specs.Date.{date_of, day_of}
use Rattle.dates.specs.Zone.{Zone, clock, greenwich}
use Rattle.dates.specs.Limits.{a_zone}

-- 2. Days and dates: each the other's, months from 1 to 12, and the next day is the next date.
unfoldable pub DatesRight : Type 0
DatesRight =
    (d : ℕ) →
    (day_of (date_of d).year (date_of d).month (date_of d).day ≡ d)
    × (1 ≤ (date_of d).month) × ((date_of d).month ≤ 12) × (1 ≤ (date_of d).day) × ((date_of d).day ≤ 31)
    × ((((date_of (suc d)).year ≡ (date_of d).year) × ((date_of (suc d)).month ≡ (date_of d).month) × ((date_of (suc d)).day ≡ suc (date_of d).day))
    ⊎ ((date_of (suc d)).day ≡ 1))

unfoldable pub DatesBack : Type 0
DatesBack =
    (y m d : ℕ) → 2000 ≤ y → 1 ≤ m → m ≤ 12 → 1 ≤ d → day_of y m d < day_of (y + m / 12) (m % 12 + 1) 1 →
    ((date_of (day_of y m d)).year ≡ y) × ((date_of (day_of y m d)).month ≡ m) × ((date_of (day_of y m d)).day ≡ d)

-- 3. A leap year is one that 4 divides and 100 doesn't, or that 400 divides.
abbrev pub leap : ℕ → Bool
leap y = y % 4 == 0 && or (not (y % 100 == 0)) (y % 400 == 0)

unfoldable pub LeapDays : Type 0
LeapDays = (y : ℕ) → 2000 ≤ y → day_of (suc y) 1 1 ≡ day_of y 1 1 + pick (leap y) 366 365

-- 4. What a clock shows at the Greenwich time of what it shows, is that, if any clock ever shows it; and of two times the first is taken.
unfoldable pub ClocksRight : Type 0
ClocksRight =
    (z : Zone) (c u : ℕ) → a_zone z ≡ true → 14400 ≤ u → clock z u ≡ c → (clock z (greenwich z c) ≡ c) × (greenwich z c ≤ u)

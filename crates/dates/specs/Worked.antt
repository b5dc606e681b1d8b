-- Worked examples: days, their dates and weekdays, and the minutes of times. Assumes nothing: these are statements, whose proof is owed.
use Rattle.std.specs.Prelude.{◌≡◌, ℕ, ◌+◌, ◌*◌}
use Rattle.dates.specs.Date.{date_of, day_of, weekday}

abbrev Is : (n y m d w : ℕ) → Type 0
Is n y m d w = (date_of n ≡ record { year = y; month = m; day = d }) × (day_of y m d ≡ n) × (weekday n ≡ w)

-- the minute of a time: 1440 a day, from the midnight of day 0 on
abbrev minute_of : (y m d hour minute : ℕ) → ℕ
minute_of y m d hour minute = 1440 * day_of y m d + 60 * hour + minute

abbrev pub Worked : Type 0
Worked =
    Is 0 2000 1 1 5
    × Is 59 2000 2 29 1
    × Is 9578 2026 3 23 0
    × Is 36583 2100 2 28 6
    × Is 36584 2100 3 1 0
    × Is 73048 2199 12 31 1
    × (minute_of 2000 1 1 0 0 ≡ 0)
    × (minute_of 2026 3 30 7 0 ≡ 13802820)
    × (minute_of 2199 12 31 23 59 ≡ 105190559)

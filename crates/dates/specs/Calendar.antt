-- Which year, month and day are a date: by the lengths of the months, and by nothing that counts days. Assumes nothing: these are definitions.
use Rattle.std.specs.Prelude.{ℕ, ◌+◌, ◌-◌, ◌/◌, ◌%◌, ◌≤◌, Bool, ◌&&◌, ◌==◌, nat_le}
use Rattle.pages.specs.Lists.{pick}
use Rattle.dates.specs.Promise.{leap}

-- 31 and 30 days in turn, and 31 in August too; February has what is left
unfoldable pub month_days : ℕ → ℕ → ℕ
month_days y m = pick (m == 2) (pick (leap y) 29 28) (30 + (m + m / 8) % 2)

-- a date of the calendar, from 2000 on
pub record In (y m d : ℕ) : Type 0 where
  pub year : 2000 ≤ y
  pub low : 1 ≤ m
  pub high : m ≤ 12
  pub one : 1 ≤ d
  pub inside : d ≤ month_days y m

-- a date up to 2199, whose last day is day 73,048
unfoldable pub a_date : ℕ → ℕ → ℕ → Bool
a_date y m d = (nat_le 2000 y && nat_le y 2199) && ((nat_le 1 m && nat_le m 12) && (nat_le 1 d && nat_le d (month_days y m)))

-- the month n months after month m of year y
abbrev pub year_after : ℕ → ℕ → ℕ → ℕ
year_after y m n = y + (m - 1 + n) / 12

abbrev pub month_after : ℕ → ℕ → ℕ
month_after m n = (m - 1 + n) % 12 + 1

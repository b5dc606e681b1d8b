-- Days, months, years, weekdays. Day 0 is 1 January 2000, a Saturday. Assumes nothing: these are definitions.
use Rattle.std.specs.Prelude.{ℕ, suc, ◌+◌, ◌-◌, ◌*◌, ◌/◌, ◌%◌, Bool, not, ◌==◌, nat_le, nat_lt}
use Rattle.pages.specs.Lists.{pick}

pub record Date : Type 0 where
  pub year : ℕ
  pub month : ℕ
  pub day : ℕ

-- years are counted from March, so that a leap day is a year's last
abbrev pub since : ℕ → ℕ
since d = d + 730425

abbrev pub in_era : ℕ → ℕ
in_era d = since d % 146097

abbrev pub year_in_era : ℕ → ℕ
year_in_era e = (e - e / 1460 + e / 36524 - e / 146096) / 365

abbrev pub day_in_year : ℕ → ℕ
day_in_year e = e - (365 * year_in_era e + year_in_era e / 4 - year_in_era e / 100)

abbrev pub month_in_year : ℕ → ℕ
month_in_year y = (5 * y + 2) / 153

unfoldable pub date_of : ℕ → Date
date_of d =
    let e : ℕ = in_era d in
    let y : ℕ = day_in_year e in
    let m : ℕ = month_in_year y in
    record {
      year = year_in_era e + 400 * (since d / 146097) + pick (nat_lt m 10) 0 1;
      month = pick (nat_lt m 10) (m + 3) (m - 9);
      day = suc (y - (153 * m + 2) / 5);
    }

-- the day of a date; months 1 to 12, years from 2000
unfoldable pub day_of : ℕ → ℕ → ℕ → ℕ
day_of y m d =
    let z : ℕ = pick (nat_le m 2) (y - 1) y in
    let n : ℕ = pick (nat_le m 2) (m + 9) (m - 3) in
    146097 * (z / 400) + 365 * (z % 400) + (z % 400) / 4 - (z % 400) / 100 + (153 * n + 2) / 5 + (d - 1) - 730425

-- Monday is 0
abbrev pub weekday : ℕ → ℕ
weekday d = (d + 5) % 7

abbrev pub week : ℕ → ℕ
week d = (d + 5) / 7

abbrev pub months : ℕ → ℕ
months d = 12 * (date_of d).year + (date_of d).month

-- the how manieth such weekday of its month it is, from 0; and whether it's the last
abbrev pub which : ℕ → ℕ
which d = ((date_of d).day - 1) / 7

abbrev pub is_last : ℕ → Bool
is_last d = not (months (d + 7) == months d)

-- of a year and month, the day of the first, second, third, fourth or (5) last such weekday
unfoldable pub nth_weekday : ℕ → ℕ → ℕ → ℕ → ℕ
nth_weekday y m w k =
    let f : ℕ = day_of y m 1 in
    let a : ℕ = f + (w + 7 - weekday f) % 7 in
    pick (k == 5) (pick (months (a + 28) == months f) (a + 28) (a + 21)) (a + 7 * (k - 1))

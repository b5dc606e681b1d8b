-- The code's dates, and the days and dates of the definitions. Assumes nothing: these are definitions.
use Rattle.std.specs.Prelude.{◌≡◌, ℕ, ◌≤◌, Bool, ◌&&◌, Ok, Err, Result, nat_le}
use Rattle.dates.specs.Date.{date_of, day_of}
use Rattle.dates.specs.declared.civil.Date.{Date}
use Rattle.dates.specs.declared.NoSuchDay.{NoSuchDay}

-- which day it is
abbrev pub number_of : Date → ℕ
number_of x = day_of x.year x.month x.day

-- x is this date
pub record Is (x : Date) (y m d : ℕ) : Type 0 where
  pub year : x.year ≡ y
  pub month : x.month ≡ m
  pub day : x.day ≡ d

-- x is the date of day n
pub record Of (x : Date) (n : ℕ) : Type 0 where
  pub year : x.year ≡ (date_of n).year
  pub month : x.month ≡ (date_of n).month
  pub day : x.day ≡ (date_of n).day
  pub number : number_of x ≡ n
  pub last : n ≤ 73048

-- a reply as one number, for C
abbrev pub told : Result ℕ NoSuchDay → ℕ
told (Ok n) = n
told (Err e) = 0

-- a weekday, and which of its month: the first to the fourth, or (5) the last
abbrev pub an_nth : ℕ → ℕ → Bool
an_nth w k = nat_le w 6 && (nat_le 1 k && nat_le k 5)

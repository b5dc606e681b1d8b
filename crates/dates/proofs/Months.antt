-- Months in a row: a later day is in no earlier month. Assumes nothing.
use Rattle.std.proofs.Common.{◌≡◌, ℕ, ◌+◌, ◌*◌, ◌<◌, ◌≤◌, sym, inl, inr, arith}
use Rattle.std.proofs.lemmas.Bool.{cases_lt}
use Rattle.std.proofs.lemmas.Bool.Decides.{nat_tests}
use Rattle.dates.specs.Calendar.{In, month_days}
use Rattle.dates.specs.Date.{date_of, day_of, months}
use Rattle.dates.specs.Promise.{DatesRight}
use Rattle.dates.proofs.Dates.{dates_right, in_calendar, from_first}

year_order : (y m d z n e : ℕ) → In y m d → In z n e → z < y → day_of z n e < day_of y m d
unfolding day_of month_days
year_order y m d z n e a b h = grind (arith, nat_tests)

month_order : (y m d n e : ℕ) → In y m d → In y n e → n < m → day_of y n e < day_of y m d
unfolding day_of month_days
month_order y m d n e a b h = grind (arith, nat_tests)

in_order : (y m d z n e : ℕ) → In y m d → In z n e → 12 * z + n < 12 * y + m → day_of z n e < day_of y m d
in_order y m d z n e a b h =
    elim (cases_lt z y) [
      | inl l ↦ year_order y m d z n e a b l
      | inr l ↦ (
          let p : z ≡ y = omega arith in
          rw p (month_order y m d n e a (rw p at b) (omega arith)))
    ]

pub back : (n : ℕ) → day_of (date_of n).year (date_of n).month (date_of n).day ≡ n
unfolding DatesRight
back n = (dates_right n).0

pub months_mono : (a b : ℕ) → a ≤ b → months a ≤ months b
months_mono a b l =
    elim (cases_lt (months b) (months a)) [
      | inl h ↦ absurd (
          let k = in_order (date_of a).year (date_of a).month (date_of a).day (date_of b).year (date_of b).month (date_of b).day (in_calendar a) (in_calendar b) h in
          omega (arith, back a, back b))
      | inr h ↦ h
    ]

pub month_parts : (y m z n : ℕ) → 1 ≤ m → m ≤ 12 → 1 ≤ n → n ≤ 12 → 12 * y + m ≡ 12 * z + n → (y ≡ z) × (m ≡ n)
month_parts y m z n a b c d h = (omega arith, omega arith)

-- a day by its month, counted over all years, and its day of the month
pub of_month : (y m n : ℕ) → 1 ≤ m → m ≤ 12 → months n ≡ 12 * y + m → In y m (date_of n).day × (day_of y m (date_of n).day ≡ n)
of_month y m n b c e =
    let i = in_calendar n in
    let p = month_parts (date_of n).year (date_of n).month y m i.low i.high b c e in
    (rw (p.0, p.1) at i, rw (p.0, p.1) at (back n))

-- a later day of the same month has a later number
pub same_month : (a b : ℕ) → months a ≡ months b → a < b → (date_of a).day < (date_of b).day
same_month a b e l =
    let y : ℕ = (date_of a).year in
    let m : ℕ = (date_of a).month in
    let i = in_calendar a in
    let j = of_month y m b i.low i.high (sym e) in
    omega (arith, back a, j.1, from_first y m (date_of a).day i.year i.low i.one, from_first y m (date_of b).day i.year i.low j.0.one)

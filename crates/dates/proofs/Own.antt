-- The code's dates are those of the definitions. Assumes nothing.
use Rattle.std.proofs.Common.{◌≡◌, ℕ, ◌+◌, ◌*◌, ◌≤◌, true, false, ltb, Some, None, Option, MatchOption, refl, arith}
use Rattle.std.proofs.lemmas.Bool.Decides.{nat_tests}
use Rattle.dates.specs.Date.{date_of, day_of, months, is_last}
use Rattle.dates.specs.Calendar.{In, a_date, month_days, year_after, month_after}
use Rattle.dates.specs.Civil.{number_of, Is, Of}
use Rattle.dates.specs.Promise.{DatesRight}
use Rattle.dates.specs.declared.civil.Date.{Date}
use Rattle.dates.proofs.Dates.{dates_right, told, in_calendar, to_last, year_to_last, months_of, from_first, in_month}

pub dated : (x : Date) → In x.year x.month x.day
dated x = record { year = x.first; low = x.low; high = x.high; one = x.one; inside = x.inside }

pub of_self : (x : Date) → Of x (number_of x)
of_self x =
    let t = told x.year x.month x.day (number_of x) (dated x) refl in
    record { year = t.0; month = t.1; day = t.2; number = refl; last = to_last x.year x.month x.day (dated x) x.last }

-- the parts of a day's date are a date
pub record Parts (y m d n : ℕ) : Type 0 where
  pub in_it : In y m d
  pub last : y ≤ 2199
  pub number : day_of y m d ≡ n

pub of_parts : (y m d n : ℕ) → y ≡ (date_of n).year → m ≡ (date_of n).month → d ≡ (date_of n).day → n ≤ 73048 → Parts y m d n
unfolding DatesRight
of_parts y m d n a b c h = rw (a, b, c) (record { in_it = in_calendar n; last = year_to_last n h; number = (dates_right n).0 })

pub of_day : (x : Date) (n : ℕ) → x.year ≡ (date_of n).year → x.month ≡ (date_of n).month → x.day ≡ (date_of n).day → n ≤ 73048 → Of x n
of_day x n a b c h = record { year = a; month = b; day = c; number = (of_parts x.year x.month x.day n a b c h).number; last = h }

pub own_months : (x : Date) → months (number_of x) ≡ 12 * x.year + x.month
own_months x = months_of x.year x.month x.day (dated x)

-- a week on comes the same weekday, of this month if the month is long enough
pub last_of_weekday : (x : Date) → ltb (month_days x.year x.month) (x.day + 7) ≡ is_last (number_of x)
last_of_weekday x =
    let y = x.year in
    let m = x.month in
    let d = x.day in
    let i = dated x in
    let e : day_of y m (d + 7) ≡ day_of y m d + 7 =
    omega (arith, from_first y m (d + 7) i.year i.low (omega arith), from_first y m d i.year i.low i.one) in
    let o = own_months x in
    let s = rw e at (in_month y m (d + 7) i.year i.low i.high (omega arith) (omega (arith, i.inside))) in
    grind (arith, nat_tests)

-- a date some months later, where there is one
pub months_later : (x : Date) (n : ℕ) (o : Option Date)
    → MatchOption o (a_date (year_after x.year x.month n) (month_after x.month n) x.day ≡ false) (λ z. (a_date (year_after x.year x.month n) (month_after x.month n) x.day ≡ true) × Is z (year_after x.year x.month n) (month_after x.month n) x.day × Of z (day_of (year_after x.year x.month n) (month_after x.month n) x.day))
    → MatchOption o (a_date (year_after x.year x.month n) (month_after x.month n) x.day ≡ false) (λ z. (months (number_of z) ≡ months (number_of x) + n) × (z.day ≡ x.day))
months_later x n None h = h
months_later x n (Some z) h =
    let e = h.1 in
    let a = own_months x in
    let b = own_months z in
    let y = e.year in
    let m = e.month in
    (omega arith, e.day)

-- What is promised of days and dates, proved: `grind` goes by the cases of the tests and divides by numerals.
-- Assumes nothing.
use Rattle.std.proofs.Common.{◌≡◌, ℕ, ◌+◌, ◌-◌, ◌*◌, ◌/◌, ◌%◌, ◌<◌, ◌≤◌, eqb, leb, ◌⊎◌, sym, refl, ◌∙◌, inl, inr, arith}
use Rattle.std.proofs.lemmas.Bool.Decides.{nat_tests}
use Rattle.std.proofs.lemmas.Bool.{cases_lt}
use Rattle.pages.specs.Lists.{pick}
use Rattle.dates.specs.Date.{date_of, day_of, months, weekday, nth_weekday}
use Rattle.dates.specs.Calendar.{In, month_days}
use Rattle.dates.specs.Promise.{DatesRight, DatesBack, LeapDays}

pub dates_right : DatesRight
unfolding DatesRight date_of day_of
dates_right d = grind (arith, nat_tests)

pub leap_days : LeapDays
unfolding LeapDays day_of
leap_days y h = grind (arith, nat_tests)

-- the first of the next month comes as many days later as the month has
pub month_on : (y m : ℕ) → 2000 ≤ y → 1 ≤ m → m ≤ 12 → day_of (y + m / 12) (m % 12 + 1) 1 ≡ day_of y m 1 + month_days y m
unfolding day_of month_days
month_on y m a b c = grind (arith, nat_tests)

-- each day has a date of the calendar
pub in_calendar : (d : ℕ) → In (date_of d).year (date_of d).month (date_of d).day
unfolding date_of month_days
in_calendar d = record { year = grind (arith, nat_tests); low = grind (arith, nat_tests); high = grind (arith, nat_tests); one = grind (arith, nat_tests); inside = grind (arith, nat_tests) }

once_year : (y m d z n e : ℕ) → In y m d → In z n e → day_of y m d ≡ day_of z n e → y ≡ z
unfolding day_of month_days
once_year y m d z n e a b h = grind (arith, nat_tests)

once_month : (y m d n e : ℕ) → In y m d → In y n e → day_of y m d ≡ day_of y n e → m ≡ n
unfolding day_of month_days
once_month y m d n e a b h = grind (arith, nat_tests)

once_day : (y m d e : ℕ) → In y m d → In y m e → day_of y m d ≡ day_of y m e → d ≡ e
unfolding day_of
once_day y m d e a b h = grind (arith, nat_tests)

pub once : (y m d z n e : ℕ) → In y m d → In z n e → day_of y m d ≡ day_of z n e → (y ≡ z) × (m ≡ n) × (d ≡ e)
once y m d z n e a b h =
    let p : z ≡ y = sym (once_year y m d z n e a b h) in
    let b₁ : In y n e = rw p at b in
    let h₁ : day_of y m d ≡ day_of y n e = rw p at h in
    let q : n ≡ m = sym (once_month y m d n e a b₁ h₁) in
    (sym p, sym q, once_day y m d e a (rw q at b₁) (rw q at h₁))

-- a date of the calendar is the date of its day
pub told : (y m d n : ℕ) → In y m d → day_of y m d ≡ n → (y ≡ (date_of n).year) × (m ≡ (date_of n).month) × (d ≡ (date_of n).day)
unfolding DatesRight
told y m d n a h = once y m d (date_of n).year (date_of n).month (date_of n).day a (in_calendar n) (h ∙ sym (dates_right n).0)

-- the day of a date of the calendar is no other date's
inside : (y m d : ℕ) → 2000 ≤ y → 1 ≤ m → m ≤ 12 → 1 ≤ d → day_of y m d < day_of (y + m / 12) (m % 12 + 1) 1 → d ≤ month_days y m
unfolding day_of
inside y m d a b c e f = let k = month_on y m a b c in grind (arith, nat_tests)

pub dates_back : DatesBack
unfolding DatesBack DatesRight
dates_back y m d a b c e f =
    let n : ℕ = day_of y m d in
    let t : (y ≡ (date_of n).year) × (m ≡ (date_of n).month) × (d ≡ (date_of n).day) =
    told y m d n (record { year = a; low = b; high = c; one = e; inside = inside y m d a b c e f }) refl in
    (sym t.0, sym t.1, sym t.2)

pub month_small : (y m : ℕ) → month_days y m ≤ 31
unfolding month_days
month_small y m = grind (arith, nat_tests)

-- the dates up to 2199 are those of the days up to 73,048
pub to_last : (y m d : ℕ) → In y m d → y ≤ 2199 → day_of y m d ≤ 73048
unfolding day_of month_days
to_last y m d a h = grind (arith, nat_tests)

pub year_to_last : (n : ℕ) → n ≤ 73048 → (date_of n).year ≤ 2199
unfolding date_of
year_to_last n h = grind (arith, nat_tests)

-- a date and the day after, in the same month, over its end and over the year's
pub next_day : (y m d : ℕ) → In y m d → day_of y m (d + 1) ≡ day_of y m d + 1
unfolding day_of
next_day y m d a = grind (arith, nat_tests)

pub next_month : (y m d : ℕ) → In y m d → month_days y m ≤ d → m < 12 → day_of y (m + 1) 1 ≡ day_of y m d + 1
unfolding day_of month_days
next_month y m d a h l = grind (arith, nat_tests)

pub next_year : (y m d : ℕ) → In y m d → month_days y m ≤ d → 12 ≤ m → day_of (y + 1) 1 1 ≡ day_of y m d + 1
unfolding day_of month_days
next_year y m d a h l = grind (arith, nat_tests)

-- the first of a month is a date
pub first_in : (y m : ℕ) → 2000 ≤ y → 1 ≤ m → m ≤ 12 → In y m 1
unfolding month_days
first_in y m a b c = record { year = a; low = b; high = c; one = omega arith; inside = grind (arith, nat_tests) }

-- the days of a month follow its first, and those past its end are of the next
pub from_first : (y m d : ℕ) → 2000 ≤ y → 1 ≤ m → 1 ≤ d → day_of y m d ≡ day_of y m 1 + (d - 1)
unfolding day_of
from_first y m d a b c = grind (arith, nat_tests)

pub month_long : (y m : ℕ) → 28 ≤ month_days y m
unfolding month_days
month_long y m = grind (arith, nat_tests)

pub months_of : (y m d : ℕ) → In y m d → months (day_of y m d) ≡ 12 * y + m
months_of y m d a = let t = told y m d (day_of y m d) a refl in omega (arith, t.0, t.1)

months_past : (y m d : ℕ) → 2000 ≤ y → 1 ≤ m → m ≤ 12 → month_days y m < d → d ≤ month_days y m + 28 → months (day_of y m d) ≡ 12 * y + m + 1
months_past y m d a b c h l =
    let z : ℕ = y + m / 12 in
    let n : ℕ = m % 12 + 1 in
    let e : ℕ = d - month_days y m in
    let i : In z n e = record { year = omega arith; low = omega arith; high = omega arith; one = omega arith; inside = omega (arith, month_long z n) } in
    let p : day_of z n e ≡ day_of y m d =
    omega (arith, month_on y m a b c, from_first z n e i.year i.low i.one, from_first y m d a b (omega arith)) in
    let q : months (day_of z n e) ≡ 12 * z + n = months_of z n e i in
    let r : 12 * z + n ≡ 12 * y + m + 1 = omega arith in
    rw p at (q ∙ r)

pub in_month : (y m d : ℕ) → 2000 ≤ y → 1 ≤ m → m ≤ 12 → 1 ≤ d → d ≤ month_days y m + 28
    → ((d ≤ month_days y m) × (months (day_of y m d) ≡ 12 * y + m)) ⊎ ((month_days y m < d) × (months (day_of y m d) ≡ 12 * y + m + 1))
in_month y m d a b c e h =
    elim (cases_lt (month_days y m) d) [
      | inl l ↦ inr (l, months_past y m d a b c l h)
      | inr l ↦ inl (l, months_of y m d (record { year = a; low = b; high = c; one = e; inside = l }))
    ]

-- the day that is found from the weekday's first in the month is the one that is defined
pub nth_day : (y m w k f d : ℕ) → 2000 ≤ y → 1 ≤ m → m ≤ 12 → 1 ≤ k → k ≤ 5 → f ≡ 1 + (w + 7 - weekday (day_of y m 1)) % 7
    → d ≡ pick (eqb k 5) (pick (leb (f + 28) (month_days y m)) (f + 28) (f + 21)) (f + 7 * (k - 1)) → In y m d × (day_of y m d ≡ nth_weekday y m w k)
unfolding nth_weekday
nth_day y m w k f d a b c g h p q =
    let l = month_long y m in
    let i : In y m d = record { year = a; low = b; high = c; one = grind (arith, nat_tests); inside = grind (arith, nat_tests) } in
    let n = from_first y m d a b i.one in
    let e : day_of y m (f + 28) ≡ day_of y m 1 + (w + 7 - weekday (day_of y m 1)) % 7 + 28 = omega (arith, from_first y m (f + 28) a b (omega arith)) in
    let s = rw e at (in_month y m (f + 28) a b c (omega arith) (omega arith)) in
    let t = months_of y m 1 (first_in y m a b c) in
    (i, grind (arith, nat_tests))

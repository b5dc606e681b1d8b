use Rattle.std.proofs.Common.{◌≡◌, ℕ, ◌+◌, ◌-◌, ◌*◌, ◌%◌, ◌≤◌, eqb, leb, arith}
use Rattle.std.proofs.lemmas.Bool.Decides.{nat_tests}
use Rattle.pages.specs.Lists.{pick}
use Rattle.dates.specs.Calendar.{In, month_days}
use Rattle.dates.specs.Civil.{number_of, Of}
use Rattle.dates.specs.Date.{day_of, weekday, nth_weekday}
use Rattle.dates.specs.declared.civil.Date.{Date}
use Rattle.dates.proofs.Dates.{nth_day}
use Rattle.dates.proofs.civil.Date.nth_weekday.Goals as goal

module _ (x f : Date) (w k a l d : ℕ) where
  abbrev ahead : ℕ
  ahead = 1 + (w + 7 - a) % 7

  found : Of f (day_of x.year x.month 1) → 1 ≤ k → k ≤ 5 → a ≡ weekday (number_of f) → l ≡ month_days x.year x.month
      → d ≡ pick (eqb k 5) (pick (leb (ahead + 28) l) (ahead + 28) (ahead + 21)) (ahead + 7 * (k - 1))
      → In x.year x.month d × (day_of x.year x.month d ≡ nth_weekday x.year x.month w k)
  found o g h p q e = nth_day x.year x.month w k ahead d x.first x.low x.high g h (rw (p, o.number)) (rw q at e)

pub dated-requires : goal.dated-requires
dated-requires c =
    let x = c.args.self in
    let n = found x c.first_of_month.result c.args.weekday c.args.nth _ _ _ c.first_of_month.ensures (grind (arith, nat_tests)) (grind (arith, nat_tests)) c.weekday.ensures c.month_length.ensures c.nth_day-day.ensures in
    (n.0, x.last)

pub returns : goal.returns
returns c =
    let x = c.args.self in
    let n = found x c.first_of_month.result c.args.weekday c.args.nth _ _ _ c.first_of_month.ensures (grind (arith, nat_tests)) (grind (arith, nat_tests)) c.weekday.ensures c.month_length.ensures c.nth_day-day.ensures in
    let e = c.dated.ensures in
    (grind (arith, nat_tests), rw n.1 at e.of, e.is.year, e.is.month)

use Rattle.std.proofs.Common.{arith}
use Rattle.std.proofs.lemmas.Bool.Decides.{nat_tests}
use Rattle.dates.specs.Date.{date_of}
use Rattle.dates.proofs.Own.{of_day, of_parts}
use Rattle.dates.proofs.calendar.day_dated.Goals as goal

pub dated-requires : goal.dated-requires
unfolding date_of
dated-requires c =
    let p = of_parts _ _ _ c.args.day (grind (arith, nat_tests)) (grind (arith, nat_tests)) (grind (arith, nat_tests)) c.requires in
    (p.in_it, p.last)

pub dated-requires-else-month-lt10 : goal.dated-requires-else-month-lt10
unfolding date_of
dated-requires-else-month-lt10 c =
    let p = of_parts _ _ _ c.args.day (grind (arith, nat_tests)) (grind (arith, nat_tests)) (grind (arith, nat_tests)) c.requires in
    (p.in_it, p.last)

pub returns-then-month-lt10 : goal.returns-then-month-lt10
unfolding date_of
returns-then-month-lt10 c =
    let is = c.dated.ensures.is in
    of_day c.dated.result c.args.day (grind (arith, nat_tests, is.year)) (grind (arith, nat_tests, is.month)) (grind (arith, nat_tests, is.day)) c.requires

pub returns-else-month-lt10 : goal.returns-else-month-lt10
unfolding date_of
returns-else-month-lt10 c =
    let is = c.dated-else-month-lt10.ensures.is in
    of_day c.dated-else-month-lt10.result c.args.day (grind (arith, nat_tests, is.year)) (grind (arith, nat_tests, is.month)) (grind (arith, nat_tests, is.day)) c.requires

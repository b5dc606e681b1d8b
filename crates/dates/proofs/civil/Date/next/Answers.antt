use Rattle.std.proofs.Common.{arith}
use Rattle.std.proofs.lemmas.Bool.Decides.{nat_tests}
use Rattle.dates.specs.Date.{day_of}
use Rattle.dates.specs.Calendar.{month_days}
use Rattle.dates.proofs.Own.{dated}
use Rattle.dates.proofs.Dates.{first_in, next_day, next_month, next_year}
use Rattle.dates.proofs.civil.Date.next.Goals as goal

pub dated-requires-then-self-lt12 : goal.dated-requires-then-self-lt12
dated-requires-then-self-lt12 c = let x = c.args.self in (first_in _ _ x.first (omega arith) (omega arith), x.last)

pub dated-requires-then-self-lt-LAST_YEAR : goal.dated-requires-then-self-lt-LAST_YEAR
dated-requires-then-self-lt-LAST_YEAR c = (first_in _ _ (omega arith) (omega arith) (omega arith), omega arith)

pub returns-then-self-month_length : goal.returns-then-self-month_length
returns-then-self-month_length c =
    let x = c.args.self in
    rw (next_day x.year x.month x.day (dated x)) at c.dated.ensures.of

pub returns-then-self-lt12 : goal.returns-then-self-lt12
returns-then-self-lt12 c =
    let x = c.args.self in
    rw (next_month x.year x.month x.day (dated x) (omega arith) (omega arith)) at c.dated-then-self-lt12.ensures.of

pub returns-then-self-lt-LAST_YEAR : goal.returns-then-self-lt-LAST_YEAR
returns-then-self-lt-LAST_YEAR c =
    let x = c.args.self in
    rw (next_year x.year x.month x.day (dated x) (omega arith) (omega arith)) at c.dated-then-self-lt-LAST_YEAR.ensures.of

pub returns-else-self-lt-LAST_YEAR : goal.returns-else-self-lt-LAST_YEAR
unfolding day_of month_days
returns-else-self-lt-LAST_YEAR c = grind (arith, nat_tests)

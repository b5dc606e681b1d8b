use Rattle.std.proofs.Common.{◌≡◌, ◌+◌, ◌-◌, arith}
use Rattle.std.proofs.lemmas.Bool.Decides.{nat_tests}
use Rattle.dates.specs.Calendar.{a_date}
use Rattle.dates.proofs.Own.{months_later}
use Rattle.dates.proofs.civil.Date.months_on.Goals as goal

pub returns-in_err-months : goal.returns-in_err-months
unfolding a_date
returns-in_err-months c = grind (arith, nat_tests)

pub returns : goal.returns
returns c =
    let e : c.in_ok-months.months ≡ c.args.self.month - 1 + c.args.count = grind (arith, nat_tests, c.in_ok-months.ensures) in
    months_later c.args.self c.args.count c.new.result (rw e at c.new.ensures)

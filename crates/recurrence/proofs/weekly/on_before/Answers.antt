use Rattle.std.proofs.Common.{refl, arith, rules}
use Rattle.recurrence.specs.ByRule.{on_before}
use Rattle.recurrence.proofs.Counting.{on_before_suc}
use Rattle.recurrence.proofs.Weeks.{has_day}
use Rattle.recurrence.proofs.weekly.on_before.Goals as goal

pub loop-day-init : goal.loop-day-init
unfolding on_before
loop-day-init c = (refl, omega arith)

pub loop-day-preserved : goal.loop-day-preserved
loop-day-preserved c =
    let on = has_day c.args.weekdays c.loop-day.day in
    search (rules, on_before_suc)

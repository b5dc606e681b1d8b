use Rattle.std.proofs.Common.{◌≡◌, ◌≤◌}
use Rattle.recurrence.specs.Event.{has}
use Rattle.recurrence.specs.Week.{days_of}
use Rattle.recurrence.specs.ByRule.{on_before}
use Rattle.recurrence.proofs.weekly.on_before.Given as goal

abbrev pub invariant-loop-day : goal.invariant-loop-day
invariant-loop-day l = (l.count ≡ on_before (has (days_of l.weekdays)) l.day) × (l.count ≤ l.day)

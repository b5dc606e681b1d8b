use Rattle.std.proofs.Common.{◌≤◌, []}
use Rattle.recurrence.specs.Value.{event_with}
use Rattle.recurrence.proofs.LeftOut.{left_from}
use Rattle.recurrence.proofs.Occurring.{Passed}
use Rattle.recurrence.proofs.event.Event.next_occurrence.Given as goal

abbrev pub invariant-loop-next : goal.invariant-loop-next
invariant-loop-next l = (l.from ≤ l.day) × Passed (event_with l.fn.self [] l.left_out) l.from l.day

-- each turn but the last passes over a day that is left out
abbrev pub decreases-loop-next : goal.decreases-loop-next
decreases-loop-next l = left_from l.left_out l.day

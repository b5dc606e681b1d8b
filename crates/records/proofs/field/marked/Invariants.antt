use Rattle.std.proofs.Common.{◌≡◌, ◌-◌, ◌*◌, ◌/◌, length}
use Rattle.recurrence.specs.Week.{no_days}
use Rattle.records.specs.Reader.{marks}
use Rattle.records.proofs.field.marked.Given as goal

abbrev pub invariant-loop-eight : goal.invariant-loop-eight
invariant-loop-eight l = marks (length l.numbers / 8 - l.eight-index) l.numbers (8 * l.eight-index) l.on ≡ marks (length l.numbers / 8) l.numbers 0 no_days

use Rattle.std.proofs.Common.{◌≡◌, ◌-◌, ◌*◌, ◌/◌, length}
use Rattle.records.specs.Reader.{climbs}
use Rattle.records.proofs.field.rises.Given as goal

abbrev pub invariant-loop-eight : goal.invariant-loop-eight
invariant-loop-eight l =
    climbs (length l.numbers / 8 - l.eight-index) l.least l.hi l.numbers (8 * l.eight-index) ≡ climbs (length l.numbers / 8) l.lo l.hi l.numbers 0

use Rattle.std.proofs.Common.{◌≡◌, ◌*◌, [], drop, vec_items}
use Rattle.pages.specs.Hex.{read_onto}
use Rattle.pages.proofs.hex.read_pairs.Given as goal

abbrev pub invariant-loop-high : goal.invariant-loop-high
invariant-loop-high l = read_onto (vec_items l.bytes) (drop (2 * l.high-index) l.text) ≡ read_onto [] l.text

use Rattle.std.proofs.Common.{◌≡◌, ◌++◌, drop, vec_items}
use Rattle.pages.specs.Hex.{digits}
use Rattle.pages.proofs.hex.write.Given as goal

abbrev pub invariant-loop-b : goal.invariant-loop-b
invariant-loop-b l = vec_items l.out ++ digits (drop l.b-index l.bytes) ≡ vec_items l.initial.out ++ digits l.bytes

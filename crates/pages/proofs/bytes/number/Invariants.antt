use Rattle.std.proofs.Common.{◌≡◌, ◌^◌, ◌<◌, drop}
use Rattle.pages.specs.Bytes.{from_eight}
use Rattle.pages.proofs.bytes.number.Given as goal

abbrev pub invariant-loop-b : goal.invariant-loop-b
invariant-loop-b l = (l.n < 256 ^ l.b-index) × (from_eight l.n (drop l.b-index l.bytes) ≡ from_eight 0 l.bytes)

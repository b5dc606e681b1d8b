use Rattle.std.proofs.Common.{arith}
use Rattle.pages.specs.Bytes.{in_bytes}
use Rattle.pages.proofs.bytes.eight_bytes.Goals as goal

pub returns : goal.returns
unfolding in_bytes
returns c = grind arith

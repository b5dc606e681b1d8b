use Rattle.std.proofs.Common.{rules}
use Rattle.engine_next.specs.Memory.{loaded}
use Rattle.engine_next.proofs.registers.load.Goals as goal

pub returns : goal.returns
unfolding loaded
returns c = search rules

use Rattle.std.proofs.Common.{arith}
use Rattle.pages.proofs.Parts.{placed_over}
use Rattle.engine_next.specs.Memory.{with_name}
use Rattle.engine_next.proofs.registers.put_name.Goals as goal

pub returns : goal.returns
unfolding with_name
returns c = placed_over 64 64 c.args.name.now c.args.memory.now c.put_bytes.new.to (omega arith) (omega arith) c.put_bytes.ensures

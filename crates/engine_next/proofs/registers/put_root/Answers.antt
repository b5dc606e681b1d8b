use Rattle.std.proofs.Common.{arith}
use Rattle.pages.proofs.Parts.{placed_over}
use Rattle.engine_next.specs.Memory.{with_root}
use Rattle.engine_next.proofs.registers.put_root.Goals as goal

pub returns : goal.returns
unfolding with_root
returns c = placed_over 3392 512 c.args.page.now c.args.memory.now c.put_bytes.new.to (omega arith) (omega arith) c.put_bytes.ensures

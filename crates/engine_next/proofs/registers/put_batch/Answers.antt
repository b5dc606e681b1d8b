use Rattle.std.proofs.Common.{arith}
use Rattle.pages.proofs.Parts.{placed_over}
use Rattle.engine_next.specs.Memory.{with_batch}
use Rattle.engine_next.proofs.registers.put_batch.Goals as goal

pub returns : goal.returns
unfolding with_batch
returns c = placed_over _ _ c.args.page.now c.args.memory.now c.put_bytes.new.to (omega arith) (omega arith) c.put_bytes.ensures

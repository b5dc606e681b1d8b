use Rattle.std.proofs.Common.{arith}
use Rattle.std.proofs.lemmas.List.Edits.{sets-eq}
use Rattle.engine_next.specs.Memory.{stored, words}
use Rattle.engine_next.proofs.registers.store.Goals as goal

pub returns : goal.returns
unfolding stored
returns c = sets-eq (words c.args.r) c.args.memory.now 0 (omega arith)

use Rattle.std.proofs.Common.{◌∙◌, arith}
use Rattle.std.proofs.lemmas.List.{take-take}
use Rattle.engine_next.specs.Memory.{head_in}
use Rattle.engine_next.proofs.registers.head.Goals as goal

pub returns : goal.returns
unfolding head_in
returns c = let k = rw c.unwrap.ensures at c.first_chunk.ensures.cases in k.same ∙ take-take 32 258240 _ (omega arith)

use Rattle.engine_next.specs.Memory.{root_in}
use Rattle.engine_next.proofs.registers.root.Goals as goal

pub returns : goal.returns
unfolding root_in
returns c = c.put_low_bytes.ensures

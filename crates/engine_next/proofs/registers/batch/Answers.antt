use Rattle.std.proofs.Common.{◌≡◌, ◌+◌, ◌-◌, ◌*◌, arith}
use Rattle.engine_next.specs.Memory.{batch_in}
use Rattle.engine_next.proofs.registers.batch.Goals as goal

pub returns : goal.returns
unfolding batch_in
returns c = let e : 4416 + 512 * c.args.i + 512 - (4416 + 512 * c.args.i) ≡ 512 = omega arith in rw e at c.put_low_bytes.ensures

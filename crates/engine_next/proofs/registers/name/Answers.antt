use Rattle.std.proofs.Common.{◌≡◌, ◌+◌, ◌-◌, arith}
use Rattle.engine_next.specs.Memory.{name_in}
use Rattle.engine_next.proofs.registers.name.Goals as goal

pub returns : goal.returns
unfolding name_in
returns c = let e : 64 + c.args.long - 64 ≡ c.args.long = omega arith in rw e at c.put_low_bytes.ensures

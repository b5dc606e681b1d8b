use Rattle.std.proofs.Common.{◌≡◌, ◌-◌, arith}
use Rattle.engine_next.specs.Memory.{name_in}
use Rattle.engine_next.proofs.Lent.{length_name, name_sought}
use Rattle.engine_next.proofs.join.is_taken.Goals as goal

pub returns : goal.returns
returns c =
    let l = c.args.r.long in
    let z : l - 0 ≡ l = omega arith in
    name_sought _ _ _ _ l (l - 0) (name_in l c.args.memory.now) _ _ c.has_name.ensures z c.people_here.ensures.is c.name.ensures
    (length_name l c.args.memory.now (omega arith) (omega arith))

use Rattle.std.proofs.Common.{◌≡◌, ◌-◌, ◌%◌, arith}
use Rattle.engine_next.specs.Memory.{name_in}
use Rattle.engine_next.proofs.Lent.{length_name, person_put}
use Rattle.engine_next.proofs.join.put_new_person.Goals as goal

pub returns : goal.returns
returns c =
    let m = c.args.memory.now in
    let l = c.args.r.long in
    let z : l - 0 ≡ l = omega arith in
    person_put (c.args.r.people % 4) l (l - 0) (name_in l m) _ _ c.args.bytes.now _ m _ z (length_name l m (omega arith) (omega arith)) c.name.ensures c.put_person.ensures c.put_batch.ensures

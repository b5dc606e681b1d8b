use Rattle.std.proofs.Common.{◌≡◌, length, arith}
use Rattle.engine_next.specs.Memory.{root_in}
use Rattle.engine_next.proofs.Lent.{length_root, root_put}
use Rattle.engine_next.proofs.join.put_new_root.Goals as goal

pub returns : goal.returns
returns c =
    let m = c.args.memory.now in
    let long : length m ≡ 262144 = omega arith in
    let l = length_root m long in
    root_put _ _ (root_in m) _ _ _ m _ _ (omega arith) c.root.ensures c.of.ensures.cursor c.put.ensures c.put_batch.ensures

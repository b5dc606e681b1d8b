use Rattle.std.proofs.Common.{◌≡◌, length, ap, ◌∙◌, arith}
use Rattle.engine_next.specs.Memory.{with_head}
use Rattle.engine_next.proofs.Areas.{lent_head}
use Rattle.engine_next.proofs.registers.put_head.Goals as goal

pub returns : goal.returns
returns c =
    let m = c.args.memory.now in
    let l : length m ≡ 262144 = omega arith in
    (lent_head m c.copy_from_slice.new.self l c.copy_from_slice.ensures.len).0 ∙ ap (λ ws. with_head ws m) c.copy_from_slice.ensures.after

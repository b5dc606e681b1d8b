use Rattle.std.proofs.Common.{sym, ap, ◌∙◌, ◌++◌, length, replicate, take, drop}
use Rattle.std.proofs.Math.Seq.{take-append_seam}
use Rattle.host.proofs.machine.Machine.stop.Goals as goal

pub returns : goal.returns
returns c =
    let memory = c.args.self.now.memory in
    let zeros = c.fill.new.self in
    let rest = drop (length zeros) memory.items in
    ap (λ n. take n (zeros ++ rest)) (sym (c.fill.ensures.len ∙ c.as_mut_slice.ensures.len))
    ∙ take-append_seam zeros rest
    ∙ c.fill.ensures.after (λ y e. e)
    ∙ ap (λ n. replicate n 0) (c.as_mut_slice.ensures.len ∙ c.args.self.now.whole)

use Rattle.std.proofs.Common.{ap, ◌∙◌, arith}
use Rattle.pages.proofs.Over.{over_map_more}
use Rattle.pages.proofs.words.put_each.Goals as goal

pub loop-i-preserved : goal.loop-i-preserved
loop-i-preserved g c =
    λ f h. let k = c.loop-i.invariant f h in
    let e = h _ _ c.of.ensures ∙ ap f c.index-from-i.is in
    rw (k, e) (over_map_more f c.args.from.now c.args.to.now c.loop-i.i c.index-from-i.result c.of.result c.loop-i-test.true (omega arith))

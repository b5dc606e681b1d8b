use Rattle.std.proofs.Common.{◌+◌, ◌++◌, get_or, drop, vec_items, sym, ap, ◌∙◌, append_assoc, append-nil}
use Rattle.std.proofs.lemmas.List.{at_drop_more, at_drop_all}
use Rattle.pages.specs.Bytes.{eight}
use Rattle.pages.specs.Lists.{flat}
use Rattle.host.proofs.spell.put_eights.Goals as goal

pub loop-n-preserved : goal.loop-n-preserved
loop-n-preserved c =
    let list = c.args.list.now in
    let i = c.loop-n.n-index in
    ap (λ l. l ++ flat eight (drop (i + 1) list)) c.in_ok-put_eight.ensures
    ∙ append_assoc (vec_items c.loop-n.out) (eight (get_or list i 0)) (flat eight (drop (i + 1) list))
    ∙ sym (at_drop_more (λ x. vec_items c.loop-n.out ++ flat eight x) list i 0 c.loop-n-test.true)
    ∙ c.loop-n.invariant

pub returns : goal.returns
returns c =
    let none = at_drop_all (λ x. vec_items c.loop-n.out ++ flat eight x) c.args.list.now c.loop-n.n-index c.loop-n-test.false in
    sym (append-nil _) ∙ sym none ∙ c.loop-n.invariant

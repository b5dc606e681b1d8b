use Rattle.std.proofs.Common.{[], ◌∷◌, ◌++◌, vec_items, ap, ◌∙◌, append_assoc}
use Rattle.records.specs.Command.{numbers}
use Rattle.station.proofs.Chain.{more}
use Rattle.station.proofs.spell.put_repeat.Goals as goal

pub returns : goal.returns
returns c =
    let kind = c.in_ok-push.ensures.items ∙ ap (λ b. vec_items c.args.out.now ++ b ∷ []) c.from.ensures in
    let days = c.in_ok-put_numbers.ensures ∙ ap (λ l. vec_items c.put_eight.new.out ++ numbers l) c.as_slice.ensures.value in
    more _ (more _ (more _ (more _ kind c.in_ok-put_eight.ensures) days) c.in_ok-put_eight-2.ensures) c.in_ok-put_eight-3.ensures
    ∙ simp append_assoc

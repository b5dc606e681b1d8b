use Rattle.std.proofs.Common.{[], ◌∷◌, ◌++◌, vec_items, ap, ◌∙◌}
use Rattle.records.specs.Command.{bit, numbers, repeat_spelled}
use Rattle.pages.specs.Bytes.{eight, with_length}
use Rattle.station.specs.Said.{event_of}
use Rattle.station.proofs.Chain.{event_shape, more}
use Rattle.station.proofs.spell.put_event.Goals as goal

pub returns : goal.returns
returns c =
    let e = event_of c.args.event.now in
    let title = c.in_ok-put_text.ensures ∙ ap (λ l. vec_items c.args.out.now ++ with_length l) c.as_slice.ensures.value in
    let zone = more _ title c.in_ok-push.ensures.items in
    let when = more _ (more _ (more _ zone c.in_ok-put_eight.ensures) c.in_ok-put_eight-2.ensures) c.in_ok-put_eight-3.ensures in
    let busy = c.in_ok-push-2.ensures.items ∙ ap (λ b. vec_items c.put_eight-3.new.out ++ b ∷ []) c.from.ensures in
    let out = c.in_ok-put_numbers.ensures ∙ ap (λ l. vec_items c.put_repeat.new.out ++ numbers l) c.as_slice-2.ensures.value in
    more _ (more _ (more _ when busy) c.in_ok-put_repeat.ensures) out
    ∙ event_shape (vec_items c.args.out.now) (with_length e.title) (eight e.first) (eight e.minute) (eight e.long) (repeat_spelled e.repeat) (numbers e.left_out) e.zone (bit e.busy)

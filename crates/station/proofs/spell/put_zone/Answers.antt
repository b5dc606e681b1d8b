use Rattle.std.proofs.Common.{◌∙◌, append_assoc}
use Rattle.station.proofs.Chain.{more}
use Rattle.station.proofs.spell.put_zone.Goals as goal

pub returns : goal.returns
returns c =
    (more _ (more _ (more _ (more _ (more _ (more _ c.in_ok-put_eight.ensures c.in_ok-put_eight-2.ensures) c.in_ok-push.ensures.items) c.in_ok-push-2.ensures.items) c.in_ok-push-3.ensures.items) c.in_ok-push-4.ensures.items) c.in_ok-put_eight-3.ensures)
    ∙ simp append_assoc

use Rattle.std.proofs.Common.{◌≡◌, refl, ap, ◌∙◌}
use Rattle.recurrence.specs.Event.{rising}
use Rattle.recurrence.specs.First.{number}
use Rattle.recurrence.specs.Week.{no_days, with_day}
use Rattle.recurrence.proofs.c.boomdate_next_weekly.Goals as goal

pub returns : goal.returns
unfolding rising
returns c =
    let w : c.with.result ≡ with_day c.args.weekday no_days = c.with.ensures ∙ ap (with_day c.args.weekday) c.none.ensures in
    rw (← w) (c.number.ensures ∙ ap number (c.next_occurrence.ensures.is refl))

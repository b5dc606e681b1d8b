use Rattle.engine_next.specs.Own.{own}
use Rattle.engine.proofs.Steps.{not_kind, steps}
use Rattle.engine_next.proofs.Start.{own_start}
use Rattle.engine_next.proofs.Whole.{whole_joins}
use Rattle.engine_next.proofs.step.Goals as goal

pub returns-in_default : goal.returns-in_default
returns-in_default c = record { step_says = not_kind own own_start _ _ _ _ c.in_default.ensures; whole = whole_joins }

pub returns : goal.returns
returns c = record { step_says = steps own own_start _ _ _ _ _ _ _ _ c.in-Some.ensures.0 c.in-Some.ensures.1 c.tell.ensures.tell_says; whole = whole_joins }

use Rattle.engine.specs.Entry.{StepNumbered}
use Rattle.engine_next.proofs.boomdate_step.Goals as goal

pub returns : goal.returns
unfolding StepNumbered
returns c = (c.step.result, c.step.ensures.step_says, c.numbered.ensures)

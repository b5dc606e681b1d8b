use Rattle.engine.specs.Own.{own}
use Rattle.engine.proofs.Steps.{not_long, not_out, outcome, tells}
use Rattle.engine.proofs.Whole.{own_step, own_start, whole_nothing}
use Rattle.engine.proofs.tell.Goals as goal

pub returns-in_default : goal.returns-in_default
returns-in_default c = record { tell_says = not_long own own_start _ _ _ c.in_default.ensures.cases; whole = whole_nothing }

pub returns-then-out-lt-ROW : goal.returns-then-out-lt-ROW
returns-then-out-lt-ROW c = record { tell_says = rw c.in-Some.ensures.cases.same (not_out own own_start _ _ _ c.if-out-lt-ROW.true); whole = whole_nothing }

pub returns : goal.returns
returns c =
    let long = c.in-Some.ensures.cases.long in
    let h = rw (c.in-Some.ensures.cases.same, ← own_step _ _ long) at (outcome _ _ _ c.args.out.now c.turn.ensures) in
    record { tell_says = tells own own_start _ _ _ _ _ _ long c.if-out-lt-ROW.false h; whole = whole_nothing }

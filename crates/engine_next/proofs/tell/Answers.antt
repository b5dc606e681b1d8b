use Rattle.engine.specs.Acts.{Outcome}
use Rattle.engine_next.specs.Own.{own}
use Rattle.engine.proofs.Steps.{not_long, not_out, tells, widened}
use Rattle.engine_next.proofs.Start.{own_start}
use Rattle.engine_next.proofs.Turns.{own_step}
use Rattle.engine_next.proofs.Whole.{whole_joins}
use Rattle.engine_next.proofs.tell.Goals as goal

pub returns-in_default : goal.returns-in_default
returns-in_default c = record { tell_says = not_long own own_start _ _ _ c.in_default.ensures.cases; whole = whole_joins }

pub returns-in_default-first_chunk_mut : goal.returns-in_default-first_chunk_mut
returns-in_default-first_chunk_mut c =
    record { tell_says = rw c.in-Some.ensures.cases.same (not_out own own_start _ _ _ c.in_default-first_chunk_mut.ensures.cases); whole = whole_joins }

pub returns : goal.returns
returns c =
    let memory = c.in-Some.ensures.cases in
    let row = c.in-Some-first_chunk_mut.ensures.cases in
    let h = rw (memory.same, ← own_step _ _ memory.long, row.same) at c.turn.ensures.turn in
    let whole : Outcome (own.step c.args.memory.now _) c.turn.result c.turn.new.memory c.args.out.now _ =
    record { memory_is = h.memory_is; act_is = h.act_is; out_is = widened _ _ _ row.enough c.turn.ensures.long h.out_is } in
    record { tell_says = tells own own_start _ _ _ _ _ _ memory.long row.enough whole; whole = whole_joins }

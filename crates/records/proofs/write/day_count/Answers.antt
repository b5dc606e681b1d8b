use Rattle.std.proofs.Common.{[], ◌∷◌, length, take, sym, refl, ap, ◌∙◌, arith}
use Rattle.std.proofs.lemmas.List.{length-append, take_all}
use Rattle.recurrence.specs.Week.{flags, places, days_of}
use Rattle.records.proofs.Writing.{day_marked, day_passed, places_taken}
use Rattle.records.proofs.write.day_count.Goals as goal
use Rattle.records.proofs.write.day_count.Goals.{then-has, else-has}

pub loop-day-init : goal.loop-day-init
unfolding places
loop-day-init c = refl

pub overflow_add-count : goal.overflow_add-count
overflow_add-count c = let few = places_taken c.loop-day.day (flags c.args.days) in omega (arith, few, c.loop-day.invariant)

pub loop-day-preserved : goal.loop-day-preserved
loop-day-preserved c =
    let on = flags c.args.days in
    let i = c.loop-day.day in
    elim c.if-has.branch [
      | then-has w ↦ (let q = ap length (day_marked on i (omega arith) (sym w.if-has.true ∙ c.has.ensures)) ∙ length-append (places 0 (take i on)) (i ∷ []) in
          omega (arith, w.count-is, q, c.loop-day.invariant))
      | else-has w ↦ w.count-is ∙ c.loop-day.invariant ∙ ap length (sym (day_passed on i (omega arith) (sym w.if-has.false ∙ c.has.ensures)))
    ]

pub returns : goal.returns
unfolding days_of
returns c = let on = flags c.args.days in c.loop-day.invariant ∙ ap (λ bs. length (places 0 bs)) (take_all c.loop-day.day on (omega arith))

use Rattle.std.proofs.Common.{◌≡◌, ◌+◌, ◌*◌, [], ◌∷◌, length, take, sym, ap, ◌∙◌, arith}
use Rattle.std.proofs.lemmas.List.{length-append, take_all}
use Rattle.pages.specs.Lists.{flat}
use Rattle.pages.specs.Bytes.{eight, placed}
use Rattle.pages.proofs.ByteLists.{length_eight}
use Rattle.pages.proofs.Placed.{more_at, placed_none}
use Rattle.recurrence.specs.Week.{flags, places, days_of}
use Rattle.records.proofs.Writing.{day_marked, day_passed, places_few, places_taken, flat_one_more, length_flat}
use Rattle.records.proofs.write.put_days.Goals as goal
use Rattle.records.proofs.write.put_days.Goals.{then-has, else-has}

pub loop-day-init : goal.loop-day-init
unfolding places
loop-day-init c = (omega arith, placed_none (c.args.at + 8) c.put_number.new.row)

pub put_number-requires-then-has-clause-number_inside : goal.put_number-requires-then-has-clause-number_inside
put_number-requires-then-has-clause-number_inside c =
    let few = places_taken c.loop-day.day (flags c.args.days) in
    omega (arith, few, c.loop-day.invariant.0)

pub overflow_add-end-then-has : goal.overflow_add-end-then-has
overflow_add-end-then-has c =
    let few = places_taken c.loop-day.day (flags c.args.days) in
    omega (arith, few, c.loop-day.invariant.0)

pub loop-day-preserved : goal.loop-day-preserved
loop-day-preserved c =
    let on = flags c.args.days in
    let i = c.loop-day.day in
    let k = c.args.at + 8 in
    let y = c.put_number.new.row in
    let e = c.loop-day.invariant.0 in
    let l = length_flat (places 0 (take i on)) in
    elim c.if-has.branch [
      | then-has w ↦
          (let d = day_marked on i (omega arith) (sym w.if-has.true ∙ c.has.ensures) in
          let q = ap length d ∙ length-append (places 0 (take i on)) (i ∷ []) in (
            omega (arith, w.end-is, q),
            w.out-is ∙ more_at k c.loop-day.end (flat eight (places 0 (take i on))) (eight i) y c.loop-day.out _ (omega arith) c.loop-day.invariant.1 (omega arith) w.put_number-then-has.ensures
                ∙ ap (λ u. placed k u y) (sym (flat_one_more (places 0 (take i on)) i) ∙ ap (flat eight) (sym d)),
          ))
      | else-has w ↦
          (let d = sym (day_passed on i (omega arith) (sym w.if-has.false ∙ c.has.ensures)) in (
            w.end-is ∙ e ∙ ap (λ ns. k + 8 * length ns) d,
            w.out-is ∙ c.loop-day.invariant.1 ∙ ap (λ ns. placed k (flat eight ns) y) d,
          ))
    ]

pub returns : goal.returns
unfolding days_of
returns c =
    let on = flags c.args.days in
    let k = c.args.at + 8 in
    let y = c.put_number.new.row in
    let d : take c.loop-day.day on ≡ on = take_all c.loop-day.day on (omega arith) in
    let e : c.loop-day.end ≡ k + 8 * length (places 0 on) = c.loop-day.invariant.0 ∙ ap (λ bs. k + 8 * length (places 0 bs)) d in
    let o : c.loop-day.out ≡ placed k (flat eight (places 0 on)) y = c.loop-day.invariant.1 ∙ ap (λ bs. placed k (flat eight (places 0 bs)) y) d in
    let n : y ≡ placed c.args.at (eight (length (places 0 on))) c.args.out.now = c.put_number.ensures ∙ ap (λ m. placed c.args.at (eight m) c.args.out.now) c.day_count.ensures in
    let l = length_eight (length (places 0 on)) in
    let few = places_few 0 on in
    record { end = e; few = omega arith; row = more_at c.args.at k (eight (length (places 0 on))) (flat eight (places 0 on)) c.args.out.now y _ (omega arith) n (omega arith) o }

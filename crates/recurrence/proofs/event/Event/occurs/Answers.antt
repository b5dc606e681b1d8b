use Rattle.std.proofs.Common.{[], Ok, ap, arith}
use Rattle.std.proofs.lemmas.Bool.Decides.{nat_tests}
use Rattle.recurrence.specs.Value.{event_with}
use Rattle.recurrence.proofs.Nexts.{falls_now, known_fits}
use Rattle.recurrence.proofs.Occurring.{occurs_is}
use Rattle.recurrence.proofs.event.Event.occurs.Goals as goal
use Rattle.recurrence.proofs.event.Event.occurs.Goals.{then-falls, else-falls}

pub returns-then-in_times-clause-is : goal.returns-then-in_times-clause-is
returns-then-in_times-clause-is c up =
    let o = c.in_ok-rule.ensures in
    let e = event_with c.args.self [] c.args.left_out.now in
    let n = rw (o.1, o.2) at c.next.ensures in
    let f = falls_now e.repeat e.first c.args.day (known_fits e.repeat e.first c.args.day o.0) c.next.result n in
    let d = occurs_is e c.args.day in
    let l = c.is_left_out.ensures.exact up in
    elim c.if-falls.branch [
      | then-falls w ↦ (let t = rw (o.1, o.2) at w.in_times.ensures in rw o.0 (ap Ok (grind (arith, nat_tests))))
      | else-falls w ↦ rw o.0 (ap Ok (grind (arith, nat_tests)))
    ]

pub returns-else-in_times-clause-is : goal.returns-else-in_times-clause-is
returns-else-in_times-clause-is c up =
    let o = c.in_ok-rule.ensures in
    let e = event_with c.args.self [] c.args.left_out.now in
    let n = rw (o.1, o.2) at c.next.ensures in
    let f = falls_now e.repeat e.first c.args.day (known_fits e.repeat e.first c.args.day o.0) c.next.result n in
    let d = occurs_is e c.args.day in
    elim c.if-falls.branch [
      | then-falls w ↦ (let t = rw (o.1, o.2) at w.in_times.ensures in rw o.0 (ap Ok (grind (arith, nat_tests))))
      | else-falls w ↦ rw o.0 (ap Ok (grind (arith, nat_tests)))
    ]

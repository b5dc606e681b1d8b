use Rattle.std.proofs.Common.{[], Ok, sym, refl, ap, arith}
use Rattle.recurrence.specs.Value.{event_with, repeat_of}
use Rattle.recurrence.proofs.Nexts.{known_fits}
use Rattle.recurrence.proofs.Occurring.{turn_none, turn_small, turn_fewer, turn_over, turn_out, turn_found}
use Rattle.recurrence.proofs.event.Event.next_occurrence.Goals as goal

pub returns-then-not-in_times-clause-is : goal.returns-then-not-in_times-clause-is
returns-then-not-in_times-clause-is c up =
    let o = c.in_ok-rule.ensures in
    let fit = known_fits (repeat_of c.args.self.repeat) c.args.self.first c.args.from o.0 in
    let n = rw (o.1, o.2) at c.in-Some.ensures in
    let k = rw (o.1, o.2) at c.if-not-in_times.ensures in
    rw o.0 (ap Ok (turn_out (event_with c.args.self [] c.args.left_out.now) c.args.from c.loop-next.day fit c.in-Some.next n c.loop-next.invariant.1 (sym k)))

pub returns-then-not-is_left_out-clause-is : goal.returns-then-not-is_left_out-clause-is
returns-then-not-is_left_out-clause-is c up =
    let o = c.in_ok-rule.ensures in
    let fit = known_fits (repeat_of c.args.self.repeat) c.args.self.first c.args.from o.0 in
    let n = rw (o.1, o.2) at c.in-Some.ensures in
    let k = rw (o.1, o.2) at c.if-not-in_times.ensures in
    rw o.0 (ap Ok (turn_found (event_with c.args.self [] c.args.left_out.now) c.args.from c.loop-next.day fit c.in-Some.next n c.loop-next.invariant.0 c.loop-next.invariant.1 (sym k)
    (sym (c.if-not-is_left_out.ensures.exact up))))

pub overflow_add-day : goal.overflow_add-day
overflow_add-day c =
    let o = c.in_ok-rule.ensures in
    let fit = known_fits (repeat_of c.args.self.repeat) c.args.self.first c.args.from o.0 in
    let n = rw (o.1, o.2) at c.in-Some.ensures in
    omega (arith, turn_small (event_with c.args.self [] c.args.left_out.now) c.args.from c.loop-next.day fit c.in-Some.next n)

pub loop-next-smaller : goal.loop-next-smaller
loop-next-smaller c =
    let o = c.in_ok-rule.ensures in
    let fit = known_fits (repeat_of c.args.self.repeat) c.args.self.first c.args.from o.0 in
    let n = rw (o.1, o.2) at c.in-Some.ensures in
    turn_fewer (event_with c.args.self [] c.args.left_out.now) c.args.from c.loop-next.day fit c.in-Some.next n (c.if-not-is_left_out.ensures.there refl)

pub loop-next-preserved : goal.loop-next-preserved
loop-next-preserved c =
    let o = c.in_ok-rule.ensures in
    let fit = known_fits (repeat_of c.args.self.repeat) c.args.self.first c.args.from o.0 in
    let n = rw (o.1, o.2) at c.in-Some.ensures in
    let over =
    turn_over (event_with c.args.self [] c.args.left_out.now) c.args.from c.loop-next.day fit c.in-Some.next n c.loop-next.invariant.0 c.loop-next.invariant.1
    (c.if-not-is_left_out.ensures.there refl) in
    (over.1, over.2)

pub returns-clause-is : goal.returns-clause-is
returns-clause-is c up =
    let o = c.in_ok-rule.ensures in
    let fit = known_fits (repeat_of c.args.self.repeat) c.args.self.first c.args.from o.0 in
    let n = rw (o.1, o.2) at c.in_default.ensures in
    rw o.0 (ap Ok (turn_none (event_with c.args.self [] c.args.left_out.now) c.args.from c.loop-next.day fit c.loop-next.invariant.1 n))

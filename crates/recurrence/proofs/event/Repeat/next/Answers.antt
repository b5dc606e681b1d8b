use Rattle.recurrence.specs.Value.{repeat_of}
use Rattle.recurrence.proofs.Nexts.{known_fits, next_is}
use Rattle.recurrence.proofs.event.Repeat.next.Goals as goal

pub returns-clause-tells : goal.returns-clause-tells
returns-clause-tells c =
    let r = repeat_of c.args.self in
    let o = c.in_ok-rule.ensures in
    let n = rw (o.1, o.2) at c.next.ensures in
    (o.0, rw n (next_is r c.args.first c.args.from (known_fits r c.args.first c.args.from o.0)))

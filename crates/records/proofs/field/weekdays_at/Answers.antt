use Rattle.std.proofs.Common.{rules}
use Rattle.recurrence.specs.Week.{no_days}
use Rattle.records.specs.Reader.{weekdays}
use Rattle.records.proofs.Rows.{marks_cut}
use Rattle.records.proofs.field.weekdays_at.Goals as goal

pub returns-in_err-part : goal.returns-in_err-part
unfolding weekdays
returns-in_err-part c = search rules

pub returns : goal.returns
unfolding weekdays
returns c =
    let i = c.in_ok-part.ensures.inside in
    let m = marks_cut c.in_ok-part.part.count c.in_ok-part.part.start c.in_ok-part.next c.args.bytes.now no_days i.0 i.1 in
    search rules

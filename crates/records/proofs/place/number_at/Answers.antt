use Rattle.std.proofs.Common.{◌≡◌, ◌+◌, ◌-◌, drop, ◌∙◌, arith}
use Rattle.pages.specs.Fields.{at}
use Rattle.records.proofs.Persons.{number_short}
use Rattle.records.proofs.place.number_at.Goals as goal

pub returns : goal.returns
unfolding at
returns c =
    let w = c.args.width in
    let e : c.args.start + w - c.args.start ≡ w = omega arith in
    rw e at c.number.ensures ∙ number_short w (drop c.args.start c.args.row.now) (omega arith)

use Rattle.std.proofs.Common.{◌∙◌, arith}
use Rattle.records.proofs.Persons.{block_filled, length_record, record_part}
use Rattle.records.proofs.people.Person.put.Goals as goal

pub returns : goal.returns
returns c =
    let n = c.args.self.next in
    let h = c.args.self.head in
    block_filled c.args.place _ _ c.args.page.now _ (length_record c.args.place n h c.args.page.now (omega arith)) (omega arith)
    (c.put_record.ensures ∙ record_part c.args.place _ n h c.args.page.now (omega arith))

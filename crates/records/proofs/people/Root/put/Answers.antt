use Rattle.records.proofs.Persons.{root_filled}
use Rattle.records.proofs.people.Root.put.Goals as goal

pub returns : goal.returns
returns c =
    let r = c.args.self in
    root_filled c.args.page.now _ _ _ r.people r.weight r.cursor c.put_number.ensures c.put_number-2.ensures c.put_number-3.ensures

use Rattle.std.proofs.Common.{arith}
use Rattle.records.proofs.Persons.{block_filled, length_person}
use Rattle.records.proofs.people.put_person.Goals as goal

pub returns : goal.returns
returns c = block_filled c.args.place _ _ c.args.page.now _ (length_person c.args.name.now) (omega arith) c.fill_person.ensures

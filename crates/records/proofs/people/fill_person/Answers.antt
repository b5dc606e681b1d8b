use Rattle.std.proofs.Common.{arith}
use Rattle.records.proofs.Persons.{person_filled}
use Rattle.records.proofs.people.fill_person.Goals as goal

pub returns : goal.returns
returns c =
    person_filled c.args.name.now _ _ _ _ c.put_bytes.new.row (omega arith) c.copy_from_slice.ensures.after
    c.put_byte.ensures c.put_number.ensures c.put_number-2.ensures c.put_bytes.ensures

use Rattle.std.proofs.Common.{arith}
use Rattle.records.proofs.Persons.{record_filled}
use Rattle.records.proofs.people.Person.put_record.Goals as goal

pub returns : goal.returns
returns c =
    record_filled c.args.row.now _ _ c.args.self.next c.args.self.head (omega arith) c.put_number.ensures c.put_number-2.ensures (omega (arith, c.type_inv.row 0))

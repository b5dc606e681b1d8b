use Rattle.std.proofs.Common.{rules}
use Rattle.records.specs.Reader.{number_at}
use Rattle.records.proofs.field.U64Field.read.Goals as goal

pub returns : goal.returns
unfolding number_at
returns c = search rules

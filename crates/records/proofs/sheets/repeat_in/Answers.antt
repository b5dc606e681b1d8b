use Rattle.std.proofs.Common.{rules}
use Rattle.records.specs.Sheets.{repeat_value}
use Rattle.records.proofs.sheets.repeat_in.Goals as goal

pub returns : goal.returns
unfolding repeat_value
returns c = search rules

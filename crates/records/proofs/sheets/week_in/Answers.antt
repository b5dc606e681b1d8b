use Rattle.std.proofs.Common.{rules}
use Rattle.records.specs.Sheets.{week_value}
use Rattle.records.proofs.sheets.week_in.Goals as goal

pub returns : goal.returns
unfolding week_value
returns c = search rules

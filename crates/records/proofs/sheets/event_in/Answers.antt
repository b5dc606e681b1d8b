use Rattle.std.proofs.Common.{rules}
use Rattle.records.specs.Sheets.{event_value}
use Rattle.records.proofs.sheets.event_in.Goals as goal

pub returns : goal.returns
unfolding event_value
returns c = search rules

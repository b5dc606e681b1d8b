use Rattle.std.proofs.Common.{rules}
use Rattle.records.specs.Reader.{sunday}
use Rattle.records.proofs.read.sunday_at.Goals as goal

pub returns-in_err-month : goal.returns-in_err-month
unfolding sunday
returns-in_err-month c = search rules

pub returns-in_err-week : goal.returns-in_err-week
unfolding sunday
returns-in_err-week c = search rules

pub returns : goal.returns
unfolding sunday
returns c = search rules

use Rattle.std.proofs.Common.{rules}
use Rattle.engine_next.specs.Own.{looking_from}
use Rattle.engine_next.proofs.join.look.Goals as goal

pub returns : goal.returns
unfolding looking_from
returns c = search rules

pub returns-then-i-r : goal.returns-then-i-r
unfolding looking_from
returns-then-i-r c = search rules

use Rattle.std.proofs.Common.{rules}
use Rattle.engine_next.specs.Own.{deciding}
use Rattle.engine_next.proofs.join.decide.Goals as goal

pub returns : goal.returns
unfolding deciding
returns c = search rules

pub returns-then-r-ge256 : goal.returns-then-r-ge256
unfolding deciding
returns-then-r-ge256 c = search rules

pub returns-then-r : goal.returns-then-r
unfolding deciding
returns-then-r c = search rules

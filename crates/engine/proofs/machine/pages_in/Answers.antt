use Rattle.std.proofs.Common.{rules}
use Rattle.engine.specs.Own.{pages_in}
use Rattle.engine.proofs.machine.pages_in.Goals as goal

pub returns : goal.returns
unfolding pages_in
returns c = search rules

use Rattle.std.proofs.Common.{rules}
use Rattle.engine.specs.Own.{with_pages}
use Rattle.engine.proofs.machine.set_pages.Goals as goal

pub returns : goal.returns
unfolding with_pages
returns c = search rules

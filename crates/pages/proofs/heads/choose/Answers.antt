use Rattle.std.proofs.Common.{rules}
use Rattle.pages.specs.Device.{zeros}
use Rattle.pages.specs.Waking.{fresh_head}
use Rattle.pages.proofs.heads.choose.Goals as goal

pub returns-in-false-false-clause-head : goal.returns-in-false-false-clause-head
unfolding fresh_head zeros
returns-in-false-false-clause-head c = search rules

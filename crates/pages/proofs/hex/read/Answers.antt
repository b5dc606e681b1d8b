use Rattle.std.proofs.Common.{rules}
use Rattle.pages.specs.Hex.{read_hex}
use Rattle.pages.proofs.hex.read.Goals as goal

pub returns-then-text-eq45 : goal.returns-then-text-eq45
unfolding read_hex
returns-then-text-eq45 c = search rules

pub returns : goal.returns
unfolding read_hex
returns c = search rules

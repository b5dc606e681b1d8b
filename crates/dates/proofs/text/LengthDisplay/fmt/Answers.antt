use Rattle.std.proofs.Common.{◌%◌, arith}
use Rattle.dates.proofs.Padded.{two_padded}
use Rattle.dates.proofs.text.LengthDisplay.fmt.Goals as goal

pub returns-clause-writes : goal.returns-clause-writes
returns-clause-writes g c plain ok =
    rw (c.laid_out.ensures, two_padded (c.args.self.now.0 % 60) (omega arith)) at (c.write.ensures.writes plain ok)

use Rattle.std.proofs.Common.{ℕ, ◌/◌, ◌%◌, arith}
use Rattle.dates.proofs.Padded.{two_padded}
use Rattle.dates.proofs.text.ClockDisplay.fmt.Goals as goal

pub returns-clause-writes : goal.returns-clause-writes
returns-clause-writes g c plain ok =
    let t : ℕ = c.args.self.now.0 in
    rw (c.laid_out.ensures, c.laid_out-2.ensures, two_padded (t / 60 % 24) (omega arith), two_padded (t % 60) (omega arith)) at (c.write.ensures.writes plain ok)

use Rattle.std.proofs.Common.{◌/◌, ◌%◌, append_assoc, arith}
use Rattle.dates.specs.Text.{two}
use Rattle.dates.proofs.Padded.{two_padded, year_padded}
use Rattle.dates.proofs.text.DateDisplay.fmt.Goals as goal

pub returns-clause-writes : goal.returns-clause-writes
returns-clause-writes g c plain ok =
    let x = c.args.self.now in
    rw (
      c.laid_out.ensures,
      c.laid_out-2.ensures,
      c.laid_out-3.ensures,
      year_padded x.year x.first x.last,
      two_padded x.month (omega (arith, x.high)),
      two_padded x.day (omega (arith, x.most)),
      append_assoc (two (x.year / 100)) (two (x.year % 100)) _,
    ) at (c.write.ensures.writes plain ok)

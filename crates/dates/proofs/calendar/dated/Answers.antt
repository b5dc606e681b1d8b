use Rattle.dates.proofs.Own.{of_self}
use Rattle.dates.proofs.calendar.dated.Goals as goal

pub returns-clause-of : goal.returns-clause-of
returns-clause-of c = of_self _

use Rattle.pages.specs.Fields.{at}
use Rattle.records.proofs.sheets.address_in.Goals as goal

pub returns : goal.returns
unfolding at
returns c = c.number_at.ensures

use Rattle.records.proofs.stands.pages_stand.Goals as goal
use Rattle.records.proofs.Runs.{pages_right}

pub returns : goal.returns
returns c = pages_right

use Rattle.pages.proofs.stands.landed_stays.Goals as goal
use Rattle.pages.proofs.Landed.{landed_stays}

pub returns : goal.returns
returns c = landed_stays

use Rattle.pages.proofs.stands.power_mends.Goals as goal
use Rattle.pages.proofs.Stores.{alike}

pub returns : goal.returns
returns c = alike

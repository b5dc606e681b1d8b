use Rattle.std.proofs.Common.{◌∙◌}
use Rattle.player.proofs.Held.{lands, none_lands}
use Rattle.player.proofs.devices.Devices.land.Goals as goal

pub returns-in-Some : goal.returns-in-Some
returns-in-Some c = c.put.ensures.come ∙ lands c.args.self.now c.in-Some.write c.put.ensures.long c.in-Some.is

pub returns-in_default : goal.returns-in_default
returns-in_default c = none_lands c.args.self.now c.in_default.is

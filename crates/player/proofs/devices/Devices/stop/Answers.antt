use Rattle.std.proofs.Common.{sym, ap, ◌∙◌}
use Rattle.pages.specs.Device.{stopped}
use Rattle.player.specs.Held.{device_of, left_number}
use Rattle.player.proofs.Held.{all_left, half_left, none_left, none_stops}
use Rattle.player.proofs.devices.Devices.stop.Goals as goal

pub returns-in_default : goal.returns-in_default
returns-in_default c = none_stops c.args.self.now _ c.in_default.is

pub returns-in-Nothing : goal.returns-in-Nothing
returns-in-Nothing c = none_left c.args.self.now ∙ ap (λ l. stopped (device_of c.args.self.now) (left_number l)) (sym c.in-Nothing.is)

pub returns-in-All : goal.returns-in-All
returns-in-All c =
    c.put.ensures.come ∙ all_left c.args.self.now c.in-Some.write c.put.ensures.long c.in-Some.is ∙ ap (λ l. stopped (device_of c.args.self.now) (left_number l)) (sym c.in-All.is)

pub returns-in-Half : goal.returns-in-Half
returns-in-Half c =
    c.put-in-Half.ensures.come ∙ half_left c.args.self.now c.in-Some.write c.in-Some.is ∙ ap (λ l. stopped (device_of c.args.self.now) (left_number l)) (sym c.in-Half.is)

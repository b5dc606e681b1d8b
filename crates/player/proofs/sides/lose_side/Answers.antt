use Rattle.player.proofs.Cuts.{blank_is}
use Rattle.player.proofs.sides.lose_side.Goals as goal

pub returns : goal.returns
returns c = blank_is c.args.side.now _ (c.fill.ensures.after (λ y e. e))

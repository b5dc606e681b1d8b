use Rattle.std.proofs.Common.{sym, refl, subst, arith}
use Rattle.player.specs.Held.{Leaves}
use Rattle.player.specs.declared.script.Left.TheVariants.{All, Half}
use Rattle.player.proofs.Held.{other_leaves}
use Rattle.player.proofs.script.LeftFromU64.from.Goals as goal

pub returns-in-1 : goal.returns-in-1
returns-in-1 c = subst (λ n. Leaves n All) (sym c.in-1.is) (refl, λ d. refl)

pub returns-in-2 : goal.returns-in-2
returns-in-2 c = subst (λ n. Leaves n Half) (sym c.in-2.is) (refl, λ d. refl)

pub returns-in_default : goal.returns-in_default
returns-in_default c = other_leaves c.args.number (omega arith) (omega arith)

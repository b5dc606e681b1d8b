use Rattle.std.proofs.Common.{◌≡◌, ◌++◌, drop, vec_items}
use Rattle.pages.specs.Bytes.{eight}
use Rattle.pages.specs.Lists.{flat}
use Rattle.host.proofs.spell.put_eights.Given as goal

abbrev pub invariant-loop-n : goal.invariant-loop-n
invariant-loop-n l = vec_items l.out ++ flat eight (drop l.n-index l.list) ≡ vec_items l.initial.out ++ flat eight l.list

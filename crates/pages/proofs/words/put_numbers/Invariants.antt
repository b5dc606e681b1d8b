use Rattle.std.proofs.Common.{◌≡◌, ◌*◌, ◌++◌, take, drop}
use Rattle.pages.specs.Lists.{flat}
use Rattle.pages.specs.Bytes.{eight}
use Rattle.pages.proofs.words.put_numbers.Given as goal

abbrev pub invariant-loop-i : goal.invariant-loop-i
invariant-loop-i l = l.to ≡ flat eight (take l.i l.numbers) ++ drop (8 * l.i) l.initial.to

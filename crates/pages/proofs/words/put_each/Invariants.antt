use Rattle.std.proofs.Common.{◌≡◌, ◌++◌, drop, map, take}
use Rattle.pages.proofs.words.put_each.Given as goal

abbrev pub invariant-loop-i : goal.invariant-loop-i
invariant-loop-i g l = (f : _ → _) → ((x : _) (r : _) → goal.F-post g l.of x r → r ≡ f x) → l.to ≡ map f (take l.i l.from) ++ drop l.i l.initial.to

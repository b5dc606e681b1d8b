use Rattle.std.proofs.Common.{◌≡◌, ◌++◌, length, take, drop}
use Rattle.records.specs.Does.{read_threes}
use Rattle.records.proofs.sheets.read_days.Given as goal

abbrev pub invariant-loop-i : goal.invariant-loop-i
invariant-loop-i l = l.days ≡ take l.i (read_threes (length l.initial.days) l.body) ++ drop l.i l.initial.days

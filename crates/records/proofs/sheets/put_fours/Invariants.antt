use Rattle.std.proofs.Common.{◌≡◌, ◌+◌, ◌-◌, ◌*◌, [], drop}
use Rattle.pages.specs.Bytes.{placed}
use Rattle.records.specs.Layout.{fours}
use Rattle.records.proofs.sheets.put_fours.Given as goal

abbrev pub invariant-loop-i : goal.invariant-loop-i
invariant-loop-i l = placed (l.start + 4 * l.i) (fours (22 - l.i) (drop l.i l.more) []) l.row ≡ placed l.start (fours 22 l.more []) l.initial.row

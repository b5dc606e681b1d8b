use Rattle.std.proofs.Common.{◌≡◌, ◌+◌, ◌*◌, length, take}
use Rattle.pages.specs.Lists.{flat}
use Rattle.pages.specs.Bytes.{eight, placed}
use Rattle.recurrence.specs.Week.{flags, places}
use Rattle.records.proofs.write.put_days.Given as goal

abbrev pub invariant-loop-day : goal.invariant-loop-day
invariant-loop-day l =
    (l.end ≡ l.at + 8 + 8 * length (places 0 (take l.day (flags l.days))))
    × (l.out ≡ placed (l.at + 8) (flat eight (places 0 (take l.day (flags l.days)))) l.initial.out)

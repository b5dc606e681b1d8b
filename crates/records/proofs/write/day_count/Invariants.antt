use Rattle.std.proofs.Common.{◌≡◌, length, take}
use Rattle.recurrence.specs.Week.{flags, places}
use Rattle.records.proofs.write.day_count.Given as goal

abbrev pub invariant-loop-day : goal.invariant-loop-day
invariant-loop-day l = l.count ≡ length (places 0 (take l.day (flags l.days)))

-- What the writer of events writes. Assumes nothing: these are definitions.
use Rattle.std.specs.Prelude.{ℕ, Bool, ◌&&◌, List, ◌∷◌, ◌++◌, length, nat_le}
use Rattle.pages.specs.Bytes.{eight}
use Rattle.recurrence.specs.Value.{repeat_of}
use Rattle.recurrence.specs.declared.event.Event.{Event}
use Rattle.records.specs.Command.{bit, repeat_spelled}

-- an event's title and days left out are not too many, and the row has room for the longest event: 8,386 bytes
abbrev pub writes : List ℕ → List ℕ → List ℕ → Bool
writes title days out = nat_le (length title) 255 && (nat_le (length days) 1000 && nat_le 8386 (length out))

-- an event between its title and the days left out
unfoldable pub timing_spelled : Event → List ℕ
timing_spelled e = e.zone ∷ eight e.first ++ eight e.minute ++ eight e.long ++ bit e.busy ∷ repeat_spelled (repeat_of e.repeat)

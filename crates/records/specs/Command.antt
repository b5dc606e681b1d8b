-- Commands, how they are spelled, which of them fit, and which are known. Assumes nothing: these are definitions.
use Rattle.std.specs.Prelude.{ℕ, Bool, true, false, ◌&&◌, ltb, List, ◌∷◌, ◌++◌, length, nat_le, nat_lt}
use Rattle.pages.specs.Lists.{every, flat}
use Rattle.pages.specs.Bytes.{all_bytes, eight, with_length}
use Rattle.dates.specs.Zone.{Zone}
use Rattle.dates.specs.Limits.{a_day, a_stretch, a_time, a_zone}
use Rattle.recurrence.specs.Event.{Event, Repeat, an_event, core_event, rising}

pub data Command : Type 0 where
  join : List ℕ → Command  -- a new person, by name
  zone : ℕ → Zone → Command
  put : ℕ → Event → Command  -- a person's, gets the next number
  change : ℕ → ℕ → Event → Command
  drop_event : ℕ → ℕ → Command
  skip : ℕ → ℕ → ℕ → Command  -- one of its days is left out
  list : ℕ → ℕ → ℕ → Command  -- what meets a stretch of time
  busy_times : List ℕ → ℕ → ℕ → Command  -- when some of these people are busy
  free : List ℕ → ℕ → ℕ → ℕ → Command  -- the first time at which all of them have so many minutes
  next_one : ℕ → ℕ → Command  -- the next that begins, within 400 days
  shown : ℕ → ℕ → Command  -- as it was put

abbrev pub bit : Bool → ℕ
bit true = 1
bit false = 0

abbrev pub zone_spelled : Zone → List ℕ
zone_spelled z = eight z.east ++ eight z.extra ++ z.from_month ∷ z.from_week ∷ z.to_month ∷ z.to_week ∷ eight z.at

abbrev pub numbers : List ℕ → List ℕ
numbers ns = eight (length ns) ++ flat eight ns

abbrev pub repeat_spelled : Repeat → List ℕ
repeat_spelled r = r.kind ∷ eight r.step ++ numbers r.weekdays ++ eight r.times ++ eight r.last

abbrev pub event_spelled : Event → List ℕ
event_spelled e =
    with_length e.title ++ e.zone ∷ eight e.first ++ eight e.minute ++ eight e.long ++ bit e.busy ∷ repeat_spelled e.repeat ++ numbers e.left_out

unfoldable pub spelled : Command → List ℕ
spelled (join n) = 1 ∷ with_length n
spelled (zone k z) = 2 ∷ k ∷ zone_spelled z
spelled (put a e) = 3 ∷ eight a ++ event_spelled e
spelled (change a n e) = 4 ∷ eight a ++ eight n ++ event_spelled e
spelled (drop_event a n) = 5 ∷ eight a ++ eight n
spelled (skip a n d) = 6 ∷ eight a ++ eight n ++ eight d
spelled (list a f t) = 7 ∷ eight a ++ eight f ++ eight t
spelled (busy_times ps f t) = 8 ∷ numbers ps ++ eight f ++ eight t
spelled (free ps k f t) = 9 ∷ numbers ps ++ eight k ++ eight f ++ eight t
spelled (next_one a t) = 10 ∷ eight a ++ eight t
spelled (shown a n) = 11 ∷ eight a ++ eight n

abbrev pub some_people : List ℕ → Bool
some_people ps = (rising ps && every (λ a. ltb a 256) ps) && (nat_le 1 (length ps) && nat_le (length ps) 16)

unfoldable pub fits : Command → Bool
fits (join n) = (nat_le 1 (length n) && nat_le (length n) 64) && all_bytes n
fits (zone k z) = nat_lt k 16 && a_zone z
fits (put a e) = nat_lt a 256 && an_event e
fits (change a n e) = (nat_lt a 256 && nat_lt n 18446744073709551616) && an_event e
fits (drop_event a n) = nat_lt a 256 && nat_lt n 18446744073709551616
fits (skip a n d) = (nat_lt a 256 && nat_lt n 18446744073709551616) && a_day d
fits (list a f t) = nat_lt a 256 && a_stretch f t
fits (busy_times ps f t) = some_people ps && a_stretch f t
fits (free ps k f t) = some_people ps && (a_stretch f t && (nat_le 1 k && nat_le k 10080))
fits (next_one a t) = nat_lt a 256 && a_time t
fits (shown a n) = nat_lt a 256 && nat_lt n 18446744073709551616

unfoldable pub core : Command → Bool
core (join n) = true
core (zone k z) = false
core (put a e) = core_event e
core (change a n e) = core_event e
core (drop_event a n) = true
core (skip a n d) = true
core (list a f t) = true
core (busy_times ps f t) = false
core (free ps k f t) = false
core (next_one a t) = false
core (shown a n) = true

-- no command at all: what is known before the first one is kept
abbrev pub nothing : Command → Bool
nothing c = false

-- what a house that keeps people alone knows
unfoldable pub joins : Command → Bool
joins (join n) = true
joins (zone k z) = false
joins (put a e) = false
joins (change a n e) = false
joins (drop_event a n) = false
joins (skip a n d) = false
joins (list a f t) = false
joins (busy_times ps f t) = false
joins (free ps k f t) = false
joins (next_one a t) = false
joins (shown a n) = false

abbrev pub everything : Command → Bool
everything c = true

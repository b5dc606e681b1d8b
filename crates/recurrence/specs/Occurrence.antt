-- The occurrences of an event, one after the other. Assumes nothing: these are definitions.
use Rattle.std.specs.Prelude.{◌≡◌, ℕ, zero, suc, ◌+◌, ◌≤◌, Bool, true, false, List, [], ◌∷◌, length, Some, None, Option, nat_lt}
use Rattle.pages.specs.Lists.{pick, those}
use Rattle.recurrence.specs.Event.{Event, an_event, has, occurs}
use Rattle.recurrence.specs.Span.{days_from}
use Rattle.recurrence.specs.ByRule.{day_limit, fits, known, next_day}
use Rattle.recurrence.specs.First.{Next, in_times}
use Rattle.recurrence.specs.Week.{days_of, no_days, with_day}

-- a day on which it falls is one of its number of times, left-out days counted too
abbrev pub counts : Event → ℕ → Bool
counts e d = in_times e.repeat e.first d

-- a day on which it falls is the answer, unless it is past its times or left out; go: how to go on after one that is left out
unfoldable pub unless_left_out : Event → (ℕ → Option ℕ) → Option ℕ → Option ℕ
unless_left_out e go None = None
unless_left_out e go (Some x) = pick (counts e x) (pick (has e.left_out x) (go (suc x)) (Some x)) None

-- the first from d on, which passes over at most so many left-out days
unfoldable pub passing : Event → ℕ → ℕ → Option ℕ
passing e zero d = unless_left_out e (λ _. None) (next_day e.repeat e.first d)
passing e (suc n) d = unless_left_out e (passing e n) (next_day e.repeat e.first d)

-- THE NEXT OCCURRENCE from d on, by rule
abbrev pub next_occurrence : Event → ℕ → Option ℕ
next_occurrence e d = passing e (length e.left_out) d

-- what is before b
unfoldable pub then_on : (ℕ → List ℕ) → ℕ → Option ℕ → List ℕ
then_on go b None = []
then_on go b (Some x) = pick (nat_lt x b) (x ∷ go (suc x)) []

-- one after the other, from a on and before b, each time from the day after; n is no fewer than the days that are left
unfoldable pub one_by_one : (ℕ → Option ℕ) → ℕ → ℕ → ℕ → List ℕ
one_by_one next zero a b = []
one_by_one next (suc n) a b = then_on (λ x. one_by_one next n x b) b (next a)

-- ONE AFTER THE OTHER they are all the days of a window on which it occurs, and no others
unfoldable pub OccurrencesRight : Type 0
OccurrencesRight =
    (e : Event) → fits e.repeat e.first ≡ true →
    ((d : ℕ) → Next (occurs e) d (next_occurrence e d)) × ((d n : ℕ) → one_by_one (next_occurrence e) n d (d + n) ≡ those (occurs e) (days_from d n))

-- every event of these kinds is known, on every day
unfoldable pub AllKnown : Type 0
AllKnown = (e : Event) (d : ℕ) → an_event e ≡ true → e.repeat.kind ≤ 2 → d ≤ day_limit → known e.repeat e.first d ≡ true

-- an event of every so-manieth week on one weekday
abbrev pub weekly_event : ℕ → ℕ → ℕ → ℕ → Event
weekly_event f s w l =
    record {
      title = [];
      zone = 0;
      first = f;
      minute = 0;
      long = 1;
      busy = false;
      repeat = record { kind = 2; step = s; weekdays = days_of (with_day w no_days); times = 0; last = l };
      left_out = [];
    }

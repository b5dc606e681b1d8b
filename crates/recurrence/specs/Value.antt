-- What the events of the code stand for. Assumes nothing: these are definitions.
use Rattle.std.specs.Prelude.{◌≡◌, ℕ, ◌<◌, ◌≤◌, cond, List, ◌==◌, Result, MatchResult}
use Rattle.recurrence.specs.Event.{Repeat as MeantRepeat, Event as MeantEvent}
use Rattle.recurrence.specs.Week.{days_of}
use Rattle.recurrence.specs.declared.event.Kind.{Kind}
use Rattle.recurrence.specs.declared.event.Kind.TheVariants.{Once, Daily, Weekly, Monthly, MonthlyByWeekday, MonthlyByLastWeekday, Yearly}
use Rattle.recurrence.specs.declared.event.UnknownKind.{UnknownKind}
use Rattle.recurrence.specs.declared.event.Repeat.{Repeat}
use Rattle.recurrence.specs.declared.event.Event.{Event}

-- a kind and its number
abbrev pub kind_number : Kind → ℕ
kind_number Once = 0
kind_number Daily = 1
kind_number Weekly = 2
kind_number Monthly = 3
kind_number MonthlyByWeekday = 4
kind_number MonthlyByLastWeekday = 5
kind_number Yearly = 6

abbrev pub kind_of : ℕ → Kind
kind_of n =
    cond (n == 0) Once (cond (n == 1) Daily (cond (n == 2) Weekly (cond (n == 3) Monthly
    (cond (n == 4) MonthlyByWeekday (cond (n == 5) MonthlyByLastWeekday Yearly)))))

-- what is read of a number: its kind, or that no kind has it
abbrev pub KindOf : ℕ → Result Kind UnknownKind → Type 0
KindOf n r = MatchResult r (λ k. (n ≤ 6) × (k ≡ kind_of n)) (λ e. (6 < n) × (e.0 ≡ n))

abbrev pub repeat_of : Repeat → MeantRepeat
repeat_of r = record { kind = kind_number r.kind; step = r.step; weekdays = days_of r.weekdays; times = r.times; last = r.last }

-- an event with its title and the days left out
abbrev pub event_with : Event → List ℕ → List ℕ → MeantEvent
event_with e title days =
    record { title = title; zone = e.zone; first = e.first; minute = e.minute; long = e.long; busy = e.busy; repeat = repeat_of e.repeat; left_out = days }

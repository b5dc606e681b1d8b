-- What an event's pages hold, by value. Assumes nothing: these are definitions.
use Rattle.std.specs.Prelude.{ℕ, Bool, List, [], ◌∷◌, ◌==◌}
use Rattle.pages.specs.Lists.{bit, each, flat}
use Rattle.pages.specs.Bytes.{in_bytes}
use Rattle.pages.specs.Device.{Page}
use Rattle.pages.specs.Fields.{at, fd, Field}
use Rattle.recurrence.specs.Week.{week_of}
use Rattle.recurrence.specs.Value.{kind_number, kind_of}
use Rattle.recurrence.specs.declared.event.Weekdays.{Weekdays}
use Rattle.recurrence.specs.declared.event.Repeat.{Repeat}
use Rattle.recurrence.specs.declared.event.Event.{Event}
use Rattle.records.specs.Does.{link_in, title_in, days_in}
use Rattle.records.specs.declared.sheets.First.{First}

-- fields by width and value
abbrev pub laid : List (ℕ × ℕ) → List Field
laid fs = each (λ f. fd f.0 f.1) fs

-- three bytes for each day
abbrev pub threes : List ℕ → List ℕ
threes ds = flat (λ d. in_bytes 3 d []) ds

-- the fields of a first page, from what it says
unfoldable pub fields_of : First → List (ℕ × ℕ)
fields_of f =
    let e : Event = f.event in
    let r : Repeat = e.repeat in
    let w : Weekdays = r.weekdays in
    (1, 1) ∷ (4, f.link) ∷ (8, f.number) ∷ (1, f.title) ∷ (2, f.days)
    ∷ (1, e.zone) ∷ (3, e.first) ∷ (2, e.minute) ∷ (2, e.long) ∷ (1, bit e.busy)
    ∷ (1, kind_number r.kind) ∷ (2, r.step) ∷ (2, r.times) ∷ (3, r.last)
    ∷ (1, bit w.monday) ∷ (1, bit w.tuesday) ∷ (1, bit w.wednesday) ∷ (1, bit w.thursday)
    ∷ (1, bit w.friday) ∷ (1, bit w.saturday) ∷ (1, bit w.sunday) ∷ []

-- what a first page says
abbrev pub marked : ℕ → Page → Bool
marked k p = at k 1 p == 1

unfoldable pub week_value : Page → Weekdays
week_value p = week_of (marked 33 p) (marked 34 p) (marked 35 p) (marked 36 p) (marked 37 p) (marked 38 p) (marked 39 p)

unfoldable pub repeat_value : Page → Repeat
repeat_value p = record { kind = kind_of (at 25 1 p); step = at 26 2 p; weekdays = week_value p; times = at 28 2 p; last = at 30 3 p }

unfoldable pub event_value : Page → Event
event_value p = record { zone = at 16 1 p; first = at 17 3 p; minute = at 20 2 p; long = at 22 2 p; busy = marked 24 p; repeat = repeat_value p }

abbrev pub first_value : Page → First
first_value p = record { link = link_in p; number = at 5 8 p; title = title_in p; days = days_in p; event = event_value p }

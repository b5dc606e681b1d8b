-- How commands are read from bytes. A reader takes the text and a place in it, and gives what it found with the place behind it.
-- Assumes nothing: these are definitions.
use Rattle.std.specs.Prelude.{ℕ, zero, suc, ◌+◌, ◌*◌, Bool, true, cond, ◌&&◌, List, [], ◌∷◌, length, take, drop, Some, None, Option, ◌==◌, nat_le, nat_lt, slice_index}
use Rattle.pages.specs.Bytes.{all_bytes, from_eight}
use Rattle.dates.specs.Zone.{Zone as MeantZone}
use Rattle.dates.specs.declared.zone.Sunday.{Sunday}
use Rattle.dates.specs.declared.zone.Zone.{Zone}
use Rattle.recurrence.specs.Event.{Event as MeantEvent}
use Rattle.recurrence.specs.Value.{kind_of, event_with}
use Rattle.recurrence.specs.Week.{no_days, with_day}
use Rattle.recurrence.specs.declared.event.Weekdays.{Weekdays}
use Rattle.recurrence.specs.declared.event.Repeat.{Repeat}
use Rattle.recurrence.specs.declared.event.Event.{Event}
use Rattle.records.specs.Command.{Command as Meant, join, zone, put, change, drop_event, skip, list, busy_times, free, next_one, shown}
use Rattle.records.specs.declared.command.Part.{Part}
use Rattle.records.specs.declared.command.Stretch.{Stretch}
use Rattle.records.specs.declared.command.Draft.{Draft}
use Rattle.records.specs.declared.command.Command.{Command}
use Rattle.records.specs.declared.command.Command.TheVariants.{Join, SetZone, Put, Change, DropEvent, Skip, Listing, Busy, Free, Next, Shown}

-- the number of the eight bytes at a place
unfoldable pub number_at : List ℕ → ℕ → ℕ
number_at t k = from_eight 0 (take 8 (drop k t))

abbrev pub within : ℕ → ℕ → ℕ → Bool
within lo hi n = nat_le lo n && nat_le n hi

abbrev pub then : {A B : Type 0} → Option A → (A → Option B) → Option B
then None f = None
then (Some a) f = f a

-- a number of eight bytes, within bounds
unfoldable pub wide : ℕ → ℕ → List ℕ → ℕ → Option (ℕ × ℕ)
wide lo hi t k = cond (nat_le (k + 8) (length t) && within lo hi (number_at t k)) (Some (number_at t k, k + 8)) None

-- a byte, within bounds
unfoldable pub narrow : ℕ → ℕ → List ℕ → ℕ → Option (ℕ × ℕ)
narrow lo hi t k = cond (nat_lt k (length t) && within lo hi (slice_index t k)) (Some (slice_index t k, k + 1)) None

-- bytes with their count before them, the count within bounds
unfoldable pub text : ℕ → ℕ → List ℕ → ℕ → Option (Part × ℕ)
text few most t k =
    then (wide few most t k) (λ n. cond (nat_le (n.1 + n.0) (length t)) (Some (record { start = n.1; count = n.0 }, n.1 + n.0)) None)

-- so many pieces of a width, with their count before them, the count within bounds
unfoldable pub part : ℕ → ℕ → ℕ → List ℕ → ℕ → Option (Part × ℕ)
part w few most t k =
    then (wide few most t k) (λ n. cond (nat_le (n.1 + w * n.0) (length t)) (Some (record { start = n.1; count = n.0 }, n.1 + w * n.0)) None)

-- so many numbers from a place on, rising, within bounds
unfoldable pub climbs : ℕ → ℕ → ℕ → List ℕ → ℕ → Bool
climbs zero lo hi t k = true
climbs (suc n) lo hi t k = within lo hi (number_at t k) && climbs n (number_at t k + 1) hi t (k + 8)

-- such numbers with their count before them, the count within bounds
unfoldable pub row : ℕ → ℕ → ℕ → ℕ → List ℕ → ℕ → Option (Part × ℕ)
row few most lo hi t k =
    then (wide few most t k)
    (λ n. cond (nat_le (n.1 + 8 * n.0) (length t) && climbs n.0 lo hi t n.1) (Some (record { start = n.1; count = n.0 }, n.1 + 8 * n.0)) None)

-- the weekdays that so many numbers from a place on name, besides some
unfoldable pub marks : ℕ → List ℕ → ℕ → Weekdays → Weekdays
marks zero t k on = on
marks (suc n) t k on = marks n t (k + 8) (with_day (number_at t k) on)

unfoldable pub weekdays : List ℕ → ℕ → Option (Weekdays × ℕ)
weekdays t k = then (row 0 7 0 6 t k) (λ p. Some (marks p.0.count t p.0.start no_days, p.1))

-- two times, a stretch of up to 400 days
abbrev pub stretch : List ℕ → ℕ → Option (Stretch × ℕ)
stretch t k =
    then (wide 15840 105119999 t k)
    (λ f. then (wide 15840 105119999 t f.1)
    (λ u. cond (nat_lt f.0 u.0 && nat_le u.0 (f.0 + 576000)) (Some (record { from = f.0; to = u.0 }, u.1)) None))

-- a month and a week of it
unfoldable pub sunday : List ℕ → ℕ → Option (Sunday × ℕ)
sunday t k = then (narrow 1 12 t k) (λ m. then (narrow 1 5 t m.1) (λ w. Some (record { month = m.0; week = w.0 }, w.1)))

abbrev pub a_place : List ℕ → ℕ → Option (Zone × ℕ)
a_place t k =
    then (wide 0 1560 t k) (λ east. then (wide 0 120 t east.1) (λ extra. then (sunday t extra.1) (λ begins. then (sunday t begins.1)
    (λ ends. then (wide 0 1439 t ends.1)
    (λ at. cond (begins.0.month == ends.0.month && nat_lt 0 extra.0) None
    (Some (record { east = east.0; extra = extra.0; begins = begins.0; ends = ends.0; minute = at.0 }, at.1)))))))

abbrev pub repeating : List ℕ → ℕ → Option (Repeat × ℕ)
repeating t k =
    then (narrow 0 6 t k) (λ kind. then (wide 1 1000 t kind.1) (λ step. then (weekdays t step.1) (λ ws. then (wide 0 10000 t ws.1)
    (λ times. then (wide 11 72999 t times.1)
    (λ last. Some (record { kind = kind_of kind.0; step = step.0; weekdays = ws.0; times = times.0; last = last.0 }, last.1))))))

abbrev pub timing : List ℕ → ℕ → Option (Event × ℕ)
timing t k =
    then (narrow 0 15 t k) (λ z. then (wide 11 72999 t z.1) (λ first. then (wide 0 1439 t first.1) (λ minute. then (wide 1 10080 t minute.1)
    (λ long. then (narrow 0 1 t long.1) (λ busy. then (repeating t busy.1)
    (λ r. Some (record { zone = z.0; first = first.0; minute = minute.0; long = long.0; busy = (busy.0 == 1); repeat = r.0 }, r.1)))))))

abbrev pub draft : List ℕ → ℕ → Option (Draft × ℕ)
draft t k =
    then (text 0 255 t k) (λ title. then (timing t title.1) (λ e. then (row 0 1000 11 72999 t e.1)
    (λ out. Some (record { title = title.0; event = e.0; left_out = out.0 }, out.1))))

-- the text ends here
abbrev pub ended : {A : Type 0} → List ℕ → ℕ → A → Option A
ended t k x = cond (k == length t) (Some x) None

abbrev pub any_number : ℕ
any_number = 18446744073709551615

abbrev pub find_join : List ℕ → Option Command
find_join t = then (text 1 64 t 1) (λ n. ended t n.1 (Join n.0))

abbrev pub find_zone : List ℕ → Option Command
find_zone t = then (narrow 0 15 t 1) (λ k. then (a_place t k.1) (λ z. ended t z.1 (SetZone k.0 z.0)))

abbrev pub find_put : List ℕ → Option Command
find_put t = then (wide 0 255 t 1) (λ a. then (draft t a.1) (λ e. ended t e.1 (Put a.0 e.0)))

abbrev pub find_change : List ℕ → Option Command
find_change t = then (wide 0 255 t 1) (λ a. then (wide 0 any_number t a.1) (λ n. then (draft t n.1) (λ e. ended t e.1 (Change a.0 n.0 e.0))))

abbrev pub find_drop : List ℕ → Option Command
find_drop t = then (wide 0 255 t 1) (λ a. then (wide 0 any_number t a.1) (λ n. ended t n.1 (DropEvent a.0 n.0)))

abbrev pub find_skip : List ℕ → Option Command
find_skip t = then (wide 0 255 t 1) (λ a. then (wide 0 any_number t a.1) (λ n. then (wide 11 72999 t n.1) (λ d. ended t d.1 (Skip a.0 n.0 d.0))))

abbrev pub find_list : List ℕ → Option Command
find_list t = then (wide 0 255 t 1) (λ a. then (stretch t a.1) (λ s. ended t s.1 (Listing a.0 s.0)))

abbrev pub find_busy : List ℕ → Option Command
find_busy t = then (row 1 16 0 255 t 1) (λ ps. then (stretch t ps.1) (λ s. ended t s.1 (Busy ps.0 s.0)))

abbrev pub find_free : List ℕ → Option Command
find_free t = then (row 1 16 0 255 t 1) (λ ps. then (wide 1 10080 t ps.1) (λ k. then (stretch t k.1) (λ s. ended t s.1 (Free ps.0 k.0 s.0))))

abbrev pub find_next : List ℕ → Option Command
find_next t = then (wide 0 255 t 1) (λ a. then (wide 15840 105119999 t a.1) (λ u. ended t u.1 (Next a.0 u.0)))

abbrev pub find_shown : List ℕ → Option Command
find_shown t = then (wide 0 255 t 1) (λ a. then (wide 0 any_number t a.1) (λ n. ended t n.1 (Shown a.0 n.0)))

abbrev pub found_as : ℕ → List ℕ → Option Command
found_as b t =
    cond (b == 1) (find_join t) (cond (b == 2) (find_zone t) (cond (b == 3) (find_put t) (cond (b == 4) (find_change t)
    (cond (b == 5) (find_drop t) (cond (b == 6) (find_skip t) (cond (b == 7) (find_list t) (cond (b == 8) (find_busy t)
    (cond (b == 9) (find_free t) (cond (b == 10) (find_next t) (cond (b == 11) (find_shown t) None))))))))))

-- the command of a text, if it is one
unfoldable pub found : List ℕ → Option Command
found t = cond (nat_lt 0 (length t) && all_bytes t) (found_as (slice_index t 0) t) None

-- what a command of the code means, with the text that its lists stand in
unfoldable pub numbers_from : ℕ → List ℕ → ℕ → List ℕ
numbers_from zero t k = []
numbers_from (suc n) t k = number_at t k ∷ numbers_from n t (k + 8)

abbrev pub bytes_in : List ℕ → Part → List ℕ
bytes_in t p = take p.count (drop p.start t)

abbrev pub numbers_in : List ℕ → Part → List ℕ
numbers_in t p = numbers_from p.count t p.start

abbrev pub zone_of : Zone → MeantZone
zone_of z = record { east = z.east; extra = z.extra; from_month = z.begins.month; from_week = z.begins.week; to_month = z.ends.month; to_week = z.ends.week; at = z.minute }

abbrev pub event_in : List ℕ → Draft → MeantEvent
event_in t d = event_with d.event (bytes_in t d.title) (numbers_in t d.left_out)

abbrev pub meant : List ℕ → Command → Meant
meant t (Join n) = join (bytes_in t n)
meant t (SetZone k z) = zone k (zone_of z)
meant t (Put a e) = put a (event_in t e)
meant t (Change a n e) = change a n (event_in t e)
meant t (DropEvent a n) = drop_event a n
meant t (Skip a n d) = skip a n d
meant t (Listing a s) = list a s.from s.to
meant t (Busy ps s) = busy_times (numbers_in t ps) s.from s.to
meant t (Free ps k s) = free (numbers_in t ps) k s.from s.to
meant t (Next a u) = next_one a u
meant t (Shown a n) = shown a n

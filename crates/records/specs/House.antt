-- The plain house of calendars, which looks at every day, one after the other. Assumes nothing: these are definitions.
use Rattle.std.specs.Prelude.{ℕ, zero, suc, ◌+◌, ◌-◌, ◌*◌, ◌/◌, Bool, true, not, leb, List, [], ◌∷◌, ◌++◌, length, take, ◌==◌, nat_eq, nat_le, nat_lt}
use Rattle.pages.specs.Lists.{added_up, any, each, every, flat, none_of, pick, same, those}
use Rattle.pages.specs.Bytes.{eight, with_length}
use Rattle.dates.specs.Zone.{Zone}
use Rattle.recurrence.specs.Event.{Event, occurs}
use Rattle.recurrence.specs.Span.{Span, Stretch, cut_to, in_order, meets, spans_of, together}
use Rattle.records.specs.Command.{Command, busy_times, change, drop_event, event_spelled, free, join, list, next_one, put, shown, skip, zone}

pub record Entry : Type 0 where
  pub number : ℕ
  pub event : Event

pub record Person : Type 0 where
  pub name : List ℕ
  pub next : ℕ
  pub entries : List Entry  -- by rising number

pub record Plain : Type 0 where
  pub zones : List Zone  -- sixteen
  pub people : List Person

pub record Turn : Type 0 where
  pub reply : ℕ
  pub shows : List (List ℕ)
  pub next : Plain

abbrev pub no : ℕ → Plain → Turn
no k w = record { reply = k; shows = []; next = w }

abbrev pub yes : List (List ℕ) → Plain → Turn
yes ss w = record { reply = 0; shows = ss; next = w }

abbrev pub nobody : Person
nobody = record { name = []; next = 0; entries = [] }

unfoldable pub person_at : List Person → ℕ → Person
person_at [] a = nobody
person_at (p ∷ ps) zero = p
person_at (p ∷ ps) (suc a) = person_at ps a

unfoldable pub set_person : List Person → ℕ → Person → List Person
set_person [] a q = []
set_person (p ∷ ps) zero q = q ∷ ps
set_person (p ∷ ps) (suc a) q = p ∷ set_person ps a q

unfoldable pub set_zone : List Zone → ℕ → Zone → List Zone
set_zone [] k z = []
set_zone (y ∷ ys) zero z = z ∷ ys
set_zone (y ∷ ys) (suc k) z = y ∷ set_zone ys k z

abbrev pub is_there : Plain → ℕ → Bool
is_there w a = nat_lt a (length w.people)

abbrev pub entry_of : Person → ℕ → List Entry
entry_of p n = those (λ e. nat_eq e.number n) p.entries

abbrev pub with_person : Plain → ℕ → Person → Plain
with_person w a p = record { zones = w.zones; people = set_person w.people a p }

abbrev pub with_entries : Person → List Entry → Person
with_entries p es = record { name = p.name; next = p.next; entries = es }

abbrev pub changed : ℕ → Event → Entry → Entry
changed n e x = pick (x.number == n) (record { number = n; event = e }) x

unfoldable pub put_number : ℕ → List ℕ → List ℕ
put_number d [] = d ∷ []
put_number d (k ∷ ks) = pick (d == k) (k ∷ ks) (pick (nat_lt d k) (d ∷ k ∷ ks) (k ∷ put_number d ks))

abbrev pub left_out_too : ℕ → Event → Event
left_out_too d e = record { title = e.title; zone = e.zone; first = e.first; minute = e.minute; long = e.long; busy = e.busy; repeat = e.repeat; left_out = put_number d e.left_out }

-- a person's spans that meet a stretch, in order; of those events for which something holds
abbrev pub spans : Plain → (Event → Bool) → ℕ → ℕ → ℕ → List Span
spans w p f t a = in_order (flat (λ x. spans_of w.zones f t x.number x.event) (those (λ x. p x.event) (person_at w.people a).entries))

unfoldable pub title_of : List Entry → List ℕ
title_of [] = []
title_of (x ∷ xs) = x.event.title

abbrev pub span_row : Person → Span → List ℕ
span_row p s = eight s.from ++ eight s.to ++ eight s.number ++ with_length (title_of (entry_of p s.number))

abbrev pub busy_spans : Plain → List ℕ → ℕ → ℕ → List Span
busy_spans w ps f t = in_order (flat (spans w (λ e. e.busy) f t) ps)

abbrev pub busy_stretches : Plain → List ℕ → ℕ → ℕ → List Stretch
busy_stretches w ps f t = together (each (cut_to f t) (busy_spans w ps f t))

-- the first time from one on, of the so many that follow, at which all have room; by fives
unfoldable pub first_free : List Span → ℕ → ℕ → ℕ → ℕ → List ℕ
first_free ss k t u zero = []
first_free ss k t u (suc n) =
    pick (nat_lt u (t + k)) [] (pick (any (meets t (t + k)) ss) (first_free ss k (t + 5) u n) (t ∷ []))

abbrev pub by_five : ℕ → ℕ
by_five t = 5 * ((t + 4) / 5)

-- the next that begins at a time or later, if one does within 400 days
abbrev pub begins_from : ℕ → Span → Bool
begins_from t s = nat_le t s.from

abbrev pub next_spans : Plain → ℕ → ℕ → List Span
next_spans w a t = those (begins_from t) (spans w (λ e. true) t (t + 576000) a)

unfoldable pub turn : Plain → Command → Turn
turn w (join n) =
    pick (any (λ p. same p.name n) w.people) (no 4 w)
    (pick (nat_le 256 (length w.people)) (no 7 w)
    (yes (eight (length w.people) ∷ []) (record { zones = w.zones; people = w.people ++ record { name = n; next = 1; entries = [] } ∷ [] })))
turn w (zone k z) = yes [] (record { zones = set_zone w.zones k z; people = w.people })
turn w (put a e) =
    pick (is_there w a)
    (let p : Person = person_at w.people a in
    yes (eight p.next ∷ []) (with_person w a (record { name = p.name; next = suc p.next; entries = p.entries ++ record { number = p.next; event = e } ∷ [] })))
    (no 3 w)
turn w (change a n e) =
    pick (is_there w a)
    (pick (none_of (entry_of (person_at w.people a) n)) (no 3 w) (yes [] (with_person w a (with_entries (person_at w.people a) (each (changed n e) (person_at w.people a).entries)))))
    (no 3 w)
turn w (drop_event a n) =
    pick (is_there w a)
    (pick (none_of (entry_of (person_at w.people a) n)) (no 3 w)
    (yes [] (with_person w a (with_entries (person_at w.people a) (those (λ x. not (x.number == n)) (person_at w.people a).entries)))))
    (no 3 w)
turn w (skip a n d) =
    pick (is_there w a)
    (pick (any (λ x. occurs x.event d) (entry_of (person_at w.people a) n))
    (pick (any (λ x. leb 1000 (length x.event.left_out)) (entry_of (person_at w.people a) n)) (no 7 w)
    (yes [] (with_person w a (with_entries (person_at w.people a)
    (each (λ x. pick (x.number == n) (record { number = n; event = left_out_too d x.event }) x) (person_at w.people a).entries)))))
    (no 3 w))
    (no 3 w)
turn w (list a f t) = pick (is_there w a) (yes (each (span_row (person_at w.people a)) (spans w (λ e. true) f t a)) w) (no 3 w)
turn w (busy_times ps f t) =
    pick (every (is_there w) ps) (yes (each (λ s. eight s.from ++ eight s.to) (busy_stretches w ps f t)) w) (no 3 w)
turn w (free ps k f t) =
    pick (every (is_there w) ps) (yes (each eight (first_free (busy_spans w ps f t) k (by_five f) t (suc ((t - f) / 5)))) w) (no 3 w)
turn w (next_one a t) = pick (is_there w a) (yes (each (span_row (person_at w.people a)) (take 1 (next_spans w a t))) w) (no 3 w)
turn w (shown a n) =
    pick (is_there w a) (pick (none_of (entry_of (person_at w.people a) n)) (no 3 w) (yes (each (λ x. event_spelled x.event) (entry_of (person_at w.people a) n)) w)) (no 3 w)

-- what there is to keep, in bytes
abbrev pub event_weight : Event → ℕ
event_weight e = 256 + length e.title + 8 * length e.left_out

abbrev pub weight : Plain → ℕ
weight w = added_up (λ p. 256 + added_up (λ x. event_weight x.event) p.entries) w.people

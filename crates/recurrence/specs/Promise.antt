-- What is promised of events and their spans. Each is a statement, a type whose proof is owed. Assumes nothing.
use Rattle.std.specs.Prelude.{◌≡◌, ℕ, ◌<◌, ◌≤◌, Bool, true, ◌&&◌, List, [], ◌∷◌, length, ◌==◌, nat_le, nat_lt}
use Rattle.pages.specs.Lists.{any, each, every, those}
use Rattle.dates.specs.Zone.{Zone}
use Rattle.dates.specs.Limits.{a_stretch, a_zone}
use Rattle.recurrence.specs.Event.{Event, an_event, occurs}
use Rattle.recurrence.specs.Span.{Span, Stretch, cut_to, days_from, in_order, meets, sooner, span_of, spans_of, together}

-- 5. An event with a number of times has no more.
unfoldable pub count_in : Event → List ℕ → ℕ
count_in e ds = length (those (occurs e) ds)

unfoldable pub NoMoreTimes : Type 0
NoMoreTimes = (e : Event) (n : ℕ) → 0 < e.repeat.times → count_in e (days_from e.first n) ≤ e.repeat.times

-- 6. What is listed is all that meets the stretch, on whatever day it falls, and nothing else, each once, the sooner first.
unfoldable pub is_in : Span → List Span → Bool
is_in s ss = any (λ t. (s.from == t.from && s.number == t.number) && s.on_day == t.on_day) ss

unfoldable pub sorted : List Span → Bool
sorted [] = true
sorted (s ∷ []) = true
sorted (s ∷ t ∷ ss) = sooner s t && sorted (t ∷ ss)

unfoldable pub AllListed : Type 0
AllListed =
    (zs : List Zone) (f t n d : ℕ) (e : Event) → every a_zone zs ≡ true → an_event e ≡ true → a_stretch f t ≡ true →
    (occurs e d ≡ true → meets f t (span_of zs n e d) ≡ true → is_in (span_of zs n e d) (spans_of zs f t n e) ≡ true)
    × (every (λ s. occurs e s.on_day && meets f t s) (spans_of zs f t n e) ≡ true)
    × (sorted (in_order (spans_of zs f t n e)) ≡ true)

-- 7. Busy stretches: a minute is in one of them exactly when it is in somebody's span; they don't touch.
unfoldable pub in_stretch : ℕ → Stretch → Bool
in_stretch m s = nat_le s.from m && nat_lt m s.to

unfoldable pub in_span : ℕ → Span → Bool
in_span m s = nat_le s.from m && nat_lt m s.to

unfoldable pub apart : List Stretch → Bool
apart [] = true
apart (s ∷ []) = true
apart (s ∷ t ∷ ss) = nat_lt s.to t.from && apart (t ∷ ss)

unfoldable pub by_from : List Span → Bool
by_from [] = true
by_from (s ∷ []) = true
by_from (s ∷ t ∷ ss) = nat_le s.from t.from && by_from (t ∷ ss)

unfoldable pub BusyRight : Type 0
BusyRight =
    (ss : List Span) (f t m : ℕ) → by_from ss ≡ true → every (meets f t) ss ≡ true → f ≤ m → m < t →
    (any (in_stretch m) (together (each (cut_to f t) ss)) ≡ any (in_span m) ss) × (apart (together (each (cut_to f t) ss)) ≡ true)

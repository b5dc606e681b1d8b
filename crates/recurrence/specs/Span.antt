-- When an event is, by Greenwich; spans in order, and put together. Assumes nothing: these are definitions.
use Rattle.std.specs.Prelude.{ℕ, zero, suc, ◌+◌, ◌-◌, ◌*◌, ◌/◌, Bool, true, ◌&&◌, List, [], ◌∷◌, ◌==◌, nat_le, nat_lt}
use Rattle.pages.specs.Lists.{each, pick, those}
use Rattle.dates.specs.Zone.{Zone, greenwich, zone_at}
use Rattle.recurrence.specs.Event.{Event, occurs}

abbrev pub starts : List Zone → Event → ℕ → ℕ
starts zs e d = greenwich (zone_at zs e.zone) (1440 * d + e.minute)

pub record Span : Type 0 where
  pub from : ℕ
  pub to : ℕ
  pub number : ℕ
  pub on_day : ℕ

abbrev pub span_of : List Zone → ℕ → Event → ℕ → Span
span_of zs n e d = record { from = starts zs e d; to = starts zs e d + e.long; number = n; on_day = d }

-- days from one on, so many
unfoldable pub days_from : ℕ → ℕ → List ℕ
days_from d zero = []
days_from d (suc n) = d ∷ days_from (suc d) n

abbrev pub meets : ℕ → ℕ → Span → Bool
meets a b s = nat_lt s.from b && nat_lt a s.to

-- what of an event meets a stretch of time: it lasts a week at most, and zones differ by a day at most
abbrev pub spans_of : List Zone → ℕ → ℕ → ℕ → Event → List Span
spans_of zs a b n e =
    those (meets a b) (each (span_of zs n e) (those (occurs e) (days_from (a / 1440 - 10) ((b - a) / 1440 + 14))))

abbrev pub sooner : Span → Span → Bool
sooner s t = pick (nat_lt s.from t.from) true (s.from == t.from && pick (nat_lt s.number t.number) true (s.number == t.number && nat_lt s.on_day t.on_day))

unfoldable pub put_span : Span → List Span → List Span
put_span s [] = s ∷ []
put_span s (t ∷ ts) = pick (sooner s t) (s ∷ t ∷ ts) (t ∷ put_span s ts)

unfoldable pub in_order : List Span → List Span
in_order [] = []
in_order (s ∷ ss) = put_span s (in_order ss)

-- spans put together where they touch or overlap, and cut to a stretch
pub record Stretch : Type 0 where
  pub from : ℕ
  pub to : ℕ

abbrev pub larger : ℕ → ℕ → ℕ
larger a b = pick (nat_lt a b) b a

abbrev pub smaller : ℕ → ℕ → ℕ
smaller a b = pick (nat_lt a b) a b

-- a stretch before others that begin no earlier: those that it reaches are taken into it
unfoldable pub onto : Stretch → List Stretch → List Stretch
onto t [] = t ∷ []
onto t (u ∷ us) = pick (nat_le u.from t.to) (onto (record { from = t.from; to = larger t.to u.to }) us) (t ∷ u ∷ us)

unfoldable pub together : List Stretch → List Stretch
together [] = []
together (s ∷ ss) = onto s (together ss)

abbrev pub cut_to : ℕ → ℕ → Span → Stretch
cut_to a b s = record { from = larger a s.from; to = smaller b s.to }

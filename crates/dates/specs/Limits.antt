-- Which days, times, stretches and zones commands may name. Assumes nothing: these are definitions.
use Rattle.std.specs.Prelude.{ℕ, ◌+◌, Bool, true, ◌&&◌, ◌==◌, nat_le, nat_lt}
use Rattle.pages.specs.Lists.{pick}
use Rattle.dates.specs.Zone.{Zone}

-- days up to about 2199, from the 11th on, so that no time comes before the first; stretches of up to 400 days
abbrev pub a_day : ℕ → Bool
a_day d = nat_le 11 d && nat_lt d 73000

abbrev pub a_time : ℕ → Bool
a_time t = nat_le 15840 t && nat_lt t 105120000

abbrev pub a_stretch : ℕ → ℕ → Bool
a_stretch f t = (a_time f && a_time t) && (nat_lt f t && nat_le t (f + 576000))

abbrev pub a_zone : Zone → Bool
a_zone z =
    ((nat_le 0 z.east && nat_le z.east 1560) && (nat_le z.extra 120 && (nat_le 1 z.from_month && nat_le z.from_month 12)))
    && ((nat_le 1 z.to_month && nat_le z.to_month 12) && ((nat_le 1 z.from_week && nat_le z.from_week 5) && ((nat_le 1 z.to_week && nat_le z.to_week 5) && nat_lt z.at 1440)))
    && pick (z.from_month == z.to_month) (z.extra == 0) true

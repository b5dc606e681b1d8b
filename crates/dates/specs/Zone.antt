-- Zones and their summers. A time is a number of minutes from the midnight of day 0 at Greenwich. Assumes nothing: these are definitions.
use Rattle.std.specs.Prelude.{ℕ, zero, suc, ◌+◌, ◌-◌, ◌*◌, ◌/◌, Bool, ◌&&◌, List, [], ◌∷◌, ◌==◌, nat_le, nat_lt}
use Rattle.pages.specs.Lists.{or, pick}
use Rattle.dates.specs.Date.{date_of, nth_weekday}

-- a zone: minutes east of Greenwich and 720 more; how many minutes clocks are put on in summer; from and to which Sunday of which month; at which
-- minute of the day by standard time
pub record Zone : Type 0 where
  pub east : ℕ
  pub extra : ℕ
  pub from_month : ℕ
  pub from_week : ℕ
  pub to_month : ℕ
  pub to_week : ℕ
  pub at : ℕ

abbrev pub switch : ℕ → ℕ → ℕ → ℕ → ℕ
switch y m k a = 1440 * nth_weekday y m 6 k + a

-- is it summer, at a time by standard time there?
unfoldable pub summer : Zone → ℕ → Bool
summer z t =
    let y : ℕ = (date_of (t / 1440)).year in
    let b : ℕ = switch y z.from_month z.from_week z.at in
    let e : ℕ = switch y z.to_month z.to_week z.at in
    nat_lt 0 z.extra && pick (nat_lt b e) (nat_le b t && nat_lt t e) (or (nat_le b t) (nat_lt t e))

-- what clocks show there, by Greenwich time; times are above 720
unfoldable pub clock : Zone → ℕ → ℕ
clock z u = (u + z.east - 720) + pick (summer z (u + z.east - 720)) z.extra 0

-- Greenwich time of what a clock shows; of two the first; of one that no clock shows, as if clocks had not been put on
unfoldable pub greenwich : Zone → ℕ → ℕ
greenwich z c =
    pick (clock z (c + 720 - z.east - z.extra) == c) (c + 720 - z.east - z.extra) (c + 720 - z.east)

abbrev pub no_zone : Zone
no_zone = record { east = 720; extra = 0; from_month = 1; from_week = 1; to_month = 1; to_week = 1; at = 0 }

unfoldable pub zone_at : List Zone → ℕ → Zone
zone_at [] k = no_zone
zone_at (z ∷ zs) zero = z
zone_at (z ∷ zs) (suc k) = zone_at zs k

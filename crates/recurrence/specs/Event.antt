-- What is put into a calendar, on which days it falls, and when. Assumes nothing: these are definitions.
use Rattle.std.specs.Prelude.{ℕ, zero, suc, ◌+◌, ◌-◌, ◌%◌, Bool, true, not, ◌&&◌, ltb, List, [], ◌∷◌, length, ◌==◌, nat_eq, nat_le, nat_lt}
use Rattle.pages.specs.Lists.{any, every, or, pick}
use Rattle.pages.specs.Bytes.{all_bytes}
use Rattle.dates.specs.Date.{date_of, is_last, months, week, weekday, which}
use Rattle.dates.specs.Limits.{a_day}

-- 0 once, 1 by days, 2 by weeks on these weekdays, 3 by months on the same day, 4 on the same how manieth weekday, 5 on the last such weekday, 6 by years
pub record Repeat : Type 0 where
  pub kind : ℕ
  pub step : ℕ
  pub weekdays : List ℕ
  pub times : ℕ  -- 0 for no end
  pub last : ℕ  -- the last day on which it may fall

pub record Event : Type 0 where
  pub title : List ℕ
  pub zone : ℕ
  pub first : ℕ
  pub minute : ℕ
  pub long : ℕ
  pub busy : Bool
  pub repeat : Repeat
  pub left_out : List ℕ

abbrev pub has : List ℕ → ℕ → Bool
has ks k = any (nat_eq k) ks

-- does it fall on a day, by its rule alone?
unfoldable pub falls : Repeat → ℕ → ℕ → Bool
falls r f d =
    nat_le f d && nat_le d r.last &&
    pick (r.kind == 0) (d == f)
    (pick (r.kind == 1) ((d - f) % r.step == 0)
    (pick (r.kind == 2) (has r.weekdays (weekday d) && (week d - week f) % r.step == 0)
    (pick (r.kind == 3) ((date_of d).day == (date_of f).day && (months d - months f) % r.step == 0)
    (pick (r.kind == 4) ((weekday d == weekday f && which d == which f) && (months d - months f) % r.step == 0)
    (pick (r.kind == 5) ((weekday d == weekday f && is_last d) && (months d - months f) % r.step == 0)
    (((date_of d).day == (date_of f).day && (date_of d).month == (date_of f).month) && ((date_of d).year - (date_of f).year) % r.step == 0))))))

-- how often from the first day to so many days after it
unfoldable pub so_often : Repeat → ℕ → ℕ → ℕ
so_often r f zero = pick (falls r f f) 1 0
so_often r f (suc n) = so_often r f n + pick (falls r f (f + suc n)) 1 0

-- and with its number of times and the days left out
unfoldable pub occurs : Event → ℕ → Bool
occurs e d =
    (falls e.repeat e.first d && or (e.repeat.times == 0) (nat_le (so_often e.repeat e.first (d - e.first)) e.repeat.times))
    && not (has e.left_out d)

unfoldable pub rising : List ℕ → Bool
rising [] = true
rising (n ∷ []) = true
rising (n ∷ m ∷ ns) = nat_lt n m && rising (m ∷ ns)

abbrev pub a_repeat : Repeat → Bool
a_repeat r =
    ((nat_le r.kind 6 && (nat_le 1 r.step && nat_le r.step 1000)) && (rising r.weekdays && every (λ w. ltb w 7) r.weekdays))
    && (nat_le r.times 10000 && a_day r.last)

abbrev pub an_event : Event → Bool
an_event e =
    (((nat_le (length e.title) 255 && all_bytes e.title) && nat_lt e.zone 16) && ((a_day e.first && nat_lt e.minute 1440) && (nat_le 1 e.long && nat_le e.long 10080)))
    && (a_repeat e.repeat && ((rising e.left_out && every a_day e.left_out) && nat_le (length e.left_out) 1000))

-- THE SMALL CORE: what the first landings know. The requests widen it, until everything is known.
abbrev pub core_event : Event → Bool
core_event e = e.zone == 0 && nat_le e.repeat.kind 2

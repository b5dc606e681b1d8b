-- Events that don't repeat, or repeat by days or weeks, with no look at every day: the first day from one on, and how often up to one.
-- Assumes nothing: these are definitions.
use Rattle.std.specs.Prelude.{ℕ, zero, suc, ◌+◌, ◌-◌, ◌*◌, ◌/◌, ◌%◌, min, max, Bool, ◌&&◌, Some, None, Option, ◌==◌, nat_le, nat_lt}
use Rattle.pages.specs.Lists.{pick}
use Rattle.dates.specs.Date.{weekday, week}
use Rattle.recurrence.specs.Event.{Repeat, has}

-- far from every day, and so small that no sum of a few days leaves 64 bits
abbrev pub day_limit : ℕ
day_limit = 4294967296

-- what the rules below are for: the repeats and first days, and with them the days
abbrev pub fits : Repeat → ℕ → Bool
fits r f = (nat_le r.kind 2 && (nat_le 1 r.step && nat_le r.step day_limit)) && (nat_le f day_limit && nat_lt r.last day_limit)

abbrev pub known : Repeat → ℕ → ℕ → Bool
known r f d = fits r f && nat_le d day_limit

-- by days: the first from a on, which is not before f
abbrev pub next_daily : ℕ → ℕ → ℕ → ℕ
next_daily s f a = pick ((a - f) % s == 0) a (a + (s - (a - f) % s))

-- the first weekday from w on that is on, among so many
unfoldable pub on_from : (ℕ → Bool) → ℕ → ℕ → Option ℕ
on_from on w zero = None
on_from on w (suc n) = pick (on w) (Some w) (on_from on (suc w) n)

-- the day of a weekday in a week
abbrev pub in_week : ℕ → Option ℕ → Option ℕ
in_week k None = None
in_week k (Some w) = Some (7 * k + w - 5)

abbrev pub or_else : Option ℕ → Option ℕ → Option ℕ
or_else None o = o
or_else (Some x) o = Some x

-- how many weeks have passed since the last of its weeks, which count from the Monday of the first day's week
abbrev pub weeks_past : ℕ → ℕ → ℕ → ℕ
weeks_past s f a = (week a - week f) % s

-- by weeks: in this week if it is one of its weeks, else in the next one
unfoldable pub next_weekly : (ℕ → Bool) → ℕ → ℕ → ℕ → Option ℕ
next_weekly on s f a =
    or_else (pick (weeks_past s f a == 0) (in_week (week a) (on_from on (weekday a) (7 - weekday a))) None)
    (in_week (week a + (s - weeks_past s f a)) (on_from on 0 7))

abbrev pub up_to : ℕ → Option ℕ → Option ℕ
up_to l None = None
up_to l (Some x) = pick (nat_le x l) (Some x) None

-- the first day from a on by its kind alone, with no last day
abbrev pub next_due : Repeat → ℕ → ℕ → Option ℕ
next_due r f a =
    pick (r.kind == 0) (pick (a == f) (Some a) None)
    (pick (r.kind == 1) (Some (next_daily r.step f a)) (next_weekly (has r.weekdays) r.step f a))

-- THE FIRST DAY from d on, on which it falls
unfoldable pub next_day : Repeat → ℕ → ℕ → Option ℕ
next_day r f d = up_to r.last (next_due r f (max d f))

-- how many of the weekdays before one are on
unfoldable pub on_before : (ℕ → Bool) → ℕ → ℕ
on_before on zero = 0
on_before on (suc k) = on_before on k + pick (on k) 1 0

-- those of the weeks 0, s, 2 s .. before the week j, all of each; and of the week j up to a weekday
unfoldable pub weeks_often : (ℕ → Bool) → ℕ → ℕ → ℕ → ℕ
weeks_often on s j w = on_before on 7 * ((j + s - 1) / s) + pick (j % s == 0) (on_before on (suc w)) 0

-- by weeks: without those of the first week that come before the first day
abbrev pub often_weekly : (ℕ → Bool) → ℕ → ℕ → ℕ → ℕ
often_weekly on s f n = weeks_often on s (week (f + n) - week f) (weekday (f + n)) - on_before on (weekday f)

abbrev pub often_due : Repeat → ℕ → ℕ → ℕ
often_due r f n =
    pick (r.kind == 0) 1
    (pick (r.kind == 1) (n / r.step + 1) (often_weekly (has r.weekdays) r.step f n))

-- HOW OFTEN from its first day to n days after it
unfoldable pub often : Repeat → ℕ → ℕ → ℕ
often r f n = pick (nat_le f r.last) (often_due r f (min n (r.last - f))) 0

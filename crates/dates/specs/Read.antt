-- Dates, times of day and lengths as text: what is read from bytes, be they what they may. Assumes nothing: these are definitions.
use Rattle.std.specs.Prelude.{ℕ, ◌+◌, ◌-◌, ◌*◌, Bool, ◌&&◌, List, length, Some, None, Ok, Err, codes, Option, Result, ◌==◌, nat_le, nat_lt, slice_index}
use Rattle.pages.specs.Lists.{pick}
use Rattle.dates.specs.Calendar.{a_date}
use Rattle.dates.specs.declared.read.Misread.{Misread}
use Rattle.dates.specs.declared.read.Misread.TheVariants.{NoDate, NoClock, NoLength, Year, Month, Day, Hour, Minute}

abbrev pub then : {A B : Type 0} → Option A → (A → Option B) → Option B
then None f = None
then (Some a) f = f a

-- a digit by itself, and two of them
unfoldable pub digit_of : ℕ → Option ℕ
digit_of b = pick (nat_le 48 b && nat_le b 57) (Some (b - 48)) None

abbrev pub two_of : ℕ → ℕ → Option ℕ
two_of a b = then (digit_of a) (λ m. then (digit_of b) (λ n. Some (10 * m + n)))

unfoldable pub digit_at : List ℕ → ℕ → Option ℕ
digit_at t k = pick (nat_lt k (length t)) (digit_of (slice_index t k)) None

abbrev pub two_at : List ℕ → ℕ → Option ℕ
two_at t k = then (digit_at t k) (λ a. then (digit_at t (k + 1)) (λ b. Some (10 * a + b)))

-- the mark b stands at k
unfoldable pub is_at : List ℕ → ℕ → ℕ → Bool
is_at t k b = nat_lt k (length t) && slice_index t k == b

abbrev pub date_parts : List ℕ → Option (ℕ × ℕ × ℕ)
date_parts t =
    pick (length t == 10 && (is_at t 4 45 && is_at t 7 45))
    (then (two_at t 0) (λ c. then (two_at t 2) (λ y. then (two_at t 5) (λ m. then (two_at t 8) (λ d. Some (100 * c + y, m, d))))))
    None

abbrev pub date_checked : Option (ℕ × ℕ × ℕ) → Result (ℕ × ℕ × ℕ) Misread
date_checked None = Err NoDate
date_checked (Some p) =
    pick (nat_le 2000 p.0 && nat_le p.0 2199) (pick (nat_le 1 p.1 && nat_le p.1 12) (pick (a_date p.0 p.1 p.2) (Ok p) (Err Day)) (Err Month)) (Err Year)

-- the year, month and day
abbrev pub date_read : List ℕ → Result (ℕ × ℕ × ℕ) Misread
date_read t = date_checked (date_parts t)

abbrev pub clock_parts : List ℕ → Option (ℕ × ℕ)
clock_parts t = pick (length t == 5 && is_at t 2 58) (then (two_at t 0) (λ h. then (two_at t 3) (λ m. Some (h, m)))) None

abbrev pub clock_checked : Option (ℕ × ℕ) → Result ℕ Misread
clock_checked None = Err NoClock
clock_checked (Some p) = pick (nat_le p.0 23) (pick (nat_le p.1 59) (Ok (60 * p.0 + p.1)) (Err Minute)) (Err Hour)

-- the minute of the day
abbrev pub clock_read : List ℕ → Result ℕ Misread
clock_read t = clock_checked (clock_parts t)

-- the number that the first k bytes write, one to three digits; only 0 begins with one
abbrev pub hours_at : List ℕ → ℕ → Option ℕ
hours_at t k =
    pick (k == 1) (digit_at t 0)
    (pick (is_at t 0 48) None
    (pick (k == 2) (two_at t 0) (then (two_at t 0) (λ a. then (digit_at t 2) (λ b. Some (10 * a + b))))))

abbrev pub length_parts : List ℕ → Option (ℕ × ℕ)
length_parts t =
    pick ((nat_le 4 (length t) && nat_le (length t) 6) && is_at t (length t - 3) 58)
    (then (hours_at t (length t - 3)) (λ h. then (two_at t (length t - 2)) (λ m. Some (h, m))))
    None

abbrev pub length_checked : Option (ℕ × ℕ) → Result ℕ Misread
length_checked None = Err NoLength
length_checked (Some p) = pick (nat_le p.1 59) (Ok (60 * p.0 + p.1)) (Err Minute)

-- the minutes of a length
abbrev pub length_read : List ℕ → Result ℕ Misread
length_read t = length_checked (length_parts t)

-- what is said of a text that was misread
abbrev pub said : Misread → List ℕ
said NoDate = codes "no date: it is not written as 2026-03-30"
said NoClock = codes "no time of day: it is not written as 07:00"
said NoLength = codes "no length: it is not written as 2:00"
said Year = codes "no date: the year is not 2000 to 2199"
said Month = codes "no date: the month is not 1 to 12"
said Day = codes "no date: the month has no such day"
said Hour = codes "no time of day: the hour is not 0 to 23"
said Minute = codes "the minutes are not 0 to 59"

-- Dates, times of day and lengths as text: the bytes that are written. Assumes nothing: these are definitions.
use Rattle.std.specs.Prelude.{ℕ, ◌/◌, ◌%◌, List, [], ◌∷◌, ◌++◌, decimal}

-- two digits
abbrev pub two : ℕ → List ℕ
two n = decimal (n / 10) ++ decimal (n % 10)

-- 2026-03-30
abbrev pub date_written : ℕ → ℕ → ℕ → List ℕ
date_written y m d = two (y / 100) ++ (two (y % 100) ++ ((45 ∷ []) ++ (two m ++ ((45 ∷ []) ++ two d))))

-- 07:00, the time of day of a time in minutes
abbrev pub clock_written : ℕ → List ℕ
clock_written t = two (t / 60 % 24) ++ ((58 ∷ []) ++ two (t % 60))

-- 2:00, of a number of minutes
abbrev pub length_written : ℕ → List ℕ
length_written n = decimal (n / 60) ++ ((58 ∷ []) ++ two (n % 60))

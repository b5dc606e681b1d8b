-- What is written is read back. Each is a statement, a type whose proof is owed. Assumes nothing.
use Rattle.std.specs.Prelude.{◌≡◌, ℕ, ◌<◌, true, Ok}
use Rattle.dates.specs.Calendar.{a_date}
use Rattle.dates.specs.Text.{date_written, clock_written, length_written}
use Rattle.dates.specs.Read.{date_read, clock_read, length_read}

unfoldable pub DateReadBack : Type 0
DateReadBack = (y m d : ℕ) → a_date y m d ≡ true → date_read (date_written y m d) ≡ Ok (y, m, d)

unfoldable pub ClockReadBack : Type 0
ClockReadBack = (n : ℕ) → n < 1440 → clock_read (clock_written n) ≡ Ok n

unfoldable pub LengthReadBack : Type 0
LengthReadBack = (n : ℕ) → n < 60000 → length_read (length_written n) ≡ Ok n

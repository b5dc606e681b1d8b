-- Numbers with zeros in front, as a format of a width writes them. Assumes nothing.
use Rattle.std.proofs.Common.{◌≡◌, ℕ, ◌-◌, ◌/◌, ◌%◌, ◌^◌, ◌<◌, ◌≤◌, false, [], ◌++◌, decimal, inl, inr, arith}
use Rattle.std.specs.Fmt.{padded_integral, char_count, format_spec}
use Rattle.std.proofs.lemmas.Fmt.{decimal_digit, decimal_step}
use Rattle.std.proofs.lemmas.Bool.{cases_lt}
use Rattle.dates.specs.Text.{two}

pub two_padded : (n : ℕ) → n < 100 → padded_integral (format_spec 32 0 4 2 (2 ^ 64 - 1)) false [] (decimal n) ≡ two n
unfolding padded_integral char_count
two_padded n h =
    elim (cases_lt n 10) [
      | inl l ↦ (
          let a : n / 10 ≡ 0 = omega arith in
          let b : n % 10 ≡ n = omega arith in
          rw (a, b, decimal_digit n l, decimal_digit 0 (omega arith)))
      | inr g ↦ rw (decimal_step n g (omega arith), decimal_digit (n / 10) (omega arith), decimal_digit (n % 10) (omega arith))
    ]

-- of four digits, none of which is filled up
pub year_padded : (y : ℕ) → 2000 ≤ y → y ≤ 2199 → padded_integral (format_spec 32 0 4 4 (2 ^ 64 - 1)) false [] (decimal y) ≡ two (y / 100) ++ two (y % 100)
unfolding padded_integral char_count
year_padded y a b =
    let p : y / 10 / 10 / 10 ≡ y / 100 / 10 = omega arith in
    let q : y / 10 / 10 % 10 ≡ y / 100 % 10 = omega arith in
    let r : y / 10 % 10 ≡ y % 100 / 10 = omega arith in
    let s : y % 10 ≡ y % 100 % 10 = omega arith in
    rw (
      decimal_step y (omega arith) (omega arith),
      decimal_step (y / 10) (omega arith) (omega arith),
      decimal_step (y / 10 / 10) (omega arith) (omega arith),
      decimal_digit (y / 10 / 10 / 10) (omega arith),
      decimal_digit (y / 100 / 10) (omega arith),
      decimal_digit (y / 100 % 10) (omega arith),
      decimal_digit (y % 100 / 10) (omega arith),
      decimal_digit (y % 100 % 10) (omega arith),
      p,
      q,
      r,
      s,
    )

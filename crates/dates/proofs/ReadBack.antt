-- What is written is read back: each text as its bytes, and then digit by digit. Assumes nothing.
use Rattle.std.proofs.Common.{◌≡◌, ℕ, ◌+◌, ◌*◌, ◌/◌, ◌%◌, ◌<◌, ◌≤◌, true, List, [], ◌∷◌, ◌++◌, length, get_or, Some, Ok, decimal, refl, ap, ◌∙◌, inl, inr, arith}
use Rattle.std.proofs.lemmas.Fmt.{decimal_digit, decimal_step}
use Rattle.std.proofs.lemmas.Bool.{cases_lt, ne_eqb}
use Rattle.std.proofs.lemmas.Bool.Decides.{nat_tests}
use Rattle.dates.specs.Calendar.{a_date}
use Rattle.dates.specs.Text.{two, date_written, clock_written}
use Rattle.dates.specs.Read.{digit_of, digit_at, two_at, is_at, date_parts, date_checked, date_read, clock_parts, clock_checked, clock_read, length_parts, length_checked}
use Rattle.dates.specs.Back.{DateReadBack, ClockReadBack, LengthReadBack}
use Rattle.dates.proofs.Dates.{month_small}

two_is : (n : ℕ) → n < 100 → two n ≡ (48 + n / 10) ∷ (48 + n % 10) ∷ []
two_is n h = rw (decimal_digit (n / 10) (omega arith), decimal_digit (n % 10) (omega arith))

digit_is : (t : List ℕ) (k n : ℕ) → k < length t → get_or t k 0 ≡ 48 + n → n < 10 → digit_at t k ≡ Some n
unfolding digit_at digit_of
digit_is t k n h e l = grind (arith, nat_tests)

two_at_is : (t : List ℕ) (k n : ℕ) → k + 1 < length t → get_or t k 0 ≡ 48 + n / 10 → get_or t (k + 1) 0 ≡ 48 + n % 10 → n < 100 → two_at t k ≡ Some n
two_at_is t k n h a b l =
    let p = digit_is t k (n / 10) (omega arith) a (omega arith) in
    let q = digit_is t (k + 1) (n % 10) h b (omega arith) in
    let e : 10 * (n / 10) + n % 10 ≡ n = omega arith in
    rw (p, q, e)

-- a date

date_bytes : ℕ → ℕ → ℕ → List ℕ
date_bytes y m d =
    (48 + y / 100 / 10) ∷ (48 + y / 100 % 10) ∷ (48 + y % 100 / 10) ∷ (48 + y % 100 % 10) ∷ 45 ∷ (48 + m / 10) ∷ (48 + m % 10) ∷ 45 ∷ (48 + d / 10) ∷ (48 + d % 10) ∷ []

date_is : (y m d : ℕ) → y < 10000 → m < 100 → d < 100 → date_written y m d ≡ date_bytes y m d
unfolding date_bytes
date_is y m d a b c = rw (two_is (y / 100) (omega arith), two_is (y % 100) (omega arith), two_is m b, two_is d c)

parts_are : (y m d : ℕ) → y < 10000 → m < 100 → d < 100 → date_parts (date_bytes y m d) ≡ Some (y, m, d)
unfolding date_bytes is_at
parts_are y m d a b c =
    let t = date_bytes y m d in
    let e : 100 * (y / 100) + y % 100 ≡ y = omega arith in
    rw (two_at_is t 0 (y / 100) (omega arith) refl refl (omega arith), two_at_is t 2 (y % 100) (omega arith) refl refl (omega arith), two_at_is t 5 m (omega arith) refl refl b, two_at_is t 8 d (omega arith) refl refl c, e)

checked_is : (y m d : ℕ) → a_date y m d ≡ true → date_checked (Some (y, m, d)) ≡ Ok (y, m, d)
unfolding a_date
checked_is y m d h = grind (arith, nat_tests)

date_small : (y m d : ℕ) → a_date y m d ≡ true → (y < 10000) × (m < 100) × (d < 100)
unfolding a_date
date_small y m d h = let k = month_small y m in grind (arith, nat_tests)

pub date_back : DateReadBack
unfolding DateReadBack
date_back y m d h =
    let s = date_small y m d h in
    ap date_read (date_is y m d s.0 s.1 s.2) ∙ ap date_checked (parts_are y m d s.0 s.1 s.2) ∙ checked_is y m d h

-- a time of day

clock_bytes : ℕ → ℕ → List ℕ
clock_bytes h m = (48 + h / 10) ∷ (48 + h % 10) ∷ 58 ∷ (48 + m / 10) ∷ (48 + m % 10) ∷ []

clock_parts_are : (h m : ℕ) → h < 100 → m < 100 → clock_parts (clock_bytes h m) ≡ Some (h, m)
unfolding clock_bytes is_at
clock_parts_are h m a b =
    let t = clock_bytes h m in
    rw (two_at_is t 0 h (omega arith) refl refl a, two_at_is t 3 m (omega arith) refl refl b)

clock_checked_is : (n : ℕ) → n < 1440 → clock_checked (Some (n / 60 % 24, n % 60)) ≡ Ok n
clock_checked_is n l = grind (arith, nat_tests)

pub clock_back : ClockReadBack
unfolding ClockReadBack clock_bytes
clock_back n l =
    let e : clock_written n ≡ clock_bytes (n / 60 % 24) (n % 60) = rw (two_is (n / 60 % 24) (omega arith), two_is (n % 60) (omega arith)) in
    ap clock_read e ∙ ap clock_checked (clock_parts_are (n / 60 % 24) (n % 60) (omega arith) (omega arith)) ∙ clock_checked_is n l

-- a length, with one, two or three digits of hours

length_checked_is : (n : ℕ) → n < 60000 → length_checked (Some (n / 60, n % 60)) ≡ Ok n
length_checked_is n l = grind (arith, nat_tests)

abbrev Shown : (h m : ℕ) → Type 0
Shown h m = length_parts (decimal h ++ ((58 ∷ []) ++ two m)) ≡ Some (h, m)

one_digit : (h m : ℕ) → h < 10 → m < 60 → Shown h m
unfolding is_at
one_digit h m a b =
    let t : List ℕ = (48 + h) ∷ 58 ∷ (48 + m / 10) ∷ (48 + m % 10) ∷ [] in
    rw (decimal_digit h a, two_is m (omega arith), digit_is t 0 h (omega arith) refl a, two_at_is t 2 m (omega arith) refl refl (omega arith))

two_digits : (h m : ℕ) → 10 ≤ h → h < 100 → m < 60 → Shown h m
unfolding is_at
two_digits h m a b c =
    let t : List ℕ = (48 + h / 10) ∷ (48 + h % 10) ∷ 58 ∷ (48 + m / 10) ∷ (48 + m % 10) ∷ [] in
    rw (decimal_step h a (omega arith), decimal_digit (h / 10) (omega arith), two_is m (omega arith), ne_eqb (48 + h / 10) 48 (omega arith), two_at_is t 0 h (omega arith) refl refl b, two_at_is t 3 m (omega arith) refl refl (omega arith))

three_digits : (h m : ℕ) → 100 ≤ h → h < 1000 → m < 60 → Shown h m
unfolding is_at
three_digits h m a b c =
    let t : List ℕ = (48 + h / 10 / 10) ∷ (48 + h / 10 % 10) ∷ (48 + h % 10) ∷ 58 ∷ (48 + m / 10) ∷ (48 + m % 10) ∷ [] in
    let e : 10 * (h / 10) + h % 10 ≡ h = omega arith in
    rw (decimal_step h (omega arith) (omega arith), decimal_step (h / 10) (omega arith) (omega arith), decimal_digit (h / 10 / 10) (omega arith), two_is m (omega arith), ne_eqb (48 + h / 10 / 10) 48 (omega arith), two_at_is t 0 (h / 10) (omega arith) refl refl (omega arith), digit_is t 2 (h % 10) (omega arith) refl (omega arith), two_at_is t 4 m (omega arith) refl refl (omega arith), e)

shown : (h m : ℕ) → h < 1000 → m < 60 → Shown h m
shown h m a b =
    elim (cases_lt h 10) [
      | inl l ↦ one_digit h m l b
      | inr g ↦ elim (cases_lt h 100) [ inl l ↦ two_digits h m g l b | inr k ↦ three_digits h m k a b ]
    ]

pub length_back : LengthReadBack
unfolding LengthReadBack
length_back n l = ap length_checked (shown (n / 60) (n % 60) (omega arith) (omega arith)) ∙ length_checked_is n l

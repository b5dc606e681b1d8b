-- Bytes in hexadecimal digits, two for each, the higher first; a dash for no bytes. Assumes nothing: these are definitions.
use Rattle.std.specs.Prelude.{ℕ, ◌+◌, ◌-◌, ◌*◌, ◌/◌, ◌%◌, Bool, ◌&&◌, List, [], ◌∷◌, ◌++◌, length, Some, None, Option, ◌==◌, nat_le, nat_lt, slice_index}
use Rattle.pages.specs.Lists.{pick}

abbrev pub within : ℕ → ℕ → ℕ → Bool
within a b n = nat_le a n && nat_le n b

-- 0 to 9, a to f, A to F; 16 for a byte that is no digit
abbrev pub digit_value : ℕ → ℕ
digit_value b = pick (within 48 57 b) (b - 48) (pick (within 97 102 b) (b - 87) (pick (within 65 70 b) (b - 55) 16))

abbrev pub is_digit : ℕ → Bool
is_digit b = nat_lt (digit_value b) 16

-- what digits read as, after bytes that were read before; nothing where one is no digit, or has no other beside it
unfoldable pub read_onto : List ℕ → List ℕ → Option (List ℕ)
read_onto bs [] = Some bs
read_onto bs (a ∷ []) = None
read_onto bs (a ∷ b ∷ ds) = pick (is_digit a && is_digit b) (read_onto (bs ++ (16 * digit_value a + digit_value b) ∷ []) ds) None

abbrev pub a_dash : List ℕ → Bool
a_dash ds = length ds == 1 && slice_index ds 0 == 45

unfoldable pub read_hex : List ℕ → Option (List ℕ)
read_hex ds = pick (a_dash ds) (Some []) (read_onto [] ds)

-- a value's digit, in lower case
abbrev pub digit_of : ℕ → ℕ
digit_of n = pick (nat_lt n 10) (48 + n) (87 + n)

unfoldable pub digits : List ℕ → List ℕ
digits [] = []
digits (b ∷ bs) = digit_of (b / 16) ∷ digit_of (b % 16) ∷ digits bs

unfoldable pub hex : List ℕ → List ℕ
hex [] = 45 ∷ []
hex (b ∷ bs) = digits (b ∷ bs)

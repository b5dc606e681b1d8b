-- Numbers as bytes, the highest first. Assumes nothing: these are definitions.
use Rattle.std.specs.Prelude.{ℕ, zero, suc, ◌+◌, ◌*◌, ◌/◌, ◌%◌, Bool, List, [], ◌∷◌, ◌++◌, map, length, take, drop, nat_lt}
use Rattle.pages.specs.Lists.{every}

-- eight bytes, the highest first; and bytes with their count before them
unfoldable pub in_bytes : ℕ → ℕ → List ℕ → List ℕ
in_bytes zero n bs = bs
in_bytes (suc k) n bs = in_bytes k (n / 256) (n % 256 ∷ bs)

abbrev pub eight : ℕ → List ℕ
eight n = in_bytes 8 n []

abbrev pub with_length : List ℕ → List ℕ
with_length bs = eight (length bs) ++ bs

abbrev pub all_bytes : List ℕ → Bool
all_bytes bs = every (λ b. nat_lt b 256) bs

-- the number of bytes, the highest first, behind a number read before them
unfoldable pub from_eight : ℕ → List ℕ → ℕ
from_eight n [] = n
from_eight n (b ∷ bs) = from_eight (256 * n + b) bs

-- numbers that may be too large for bytes, as bytes
abbrev pub low_byte : ℕ → ℕ
low_byte w = w % 256

abbrev pub low_bytes : List ℕ → List ℕ
low_bytes ws = map low_byte ws

-- the front of a row overwritten
abbrev pub over : List ℕ → List ℕ → List ℕ
over xs ys = xs ++ drop (length xs) ys

-- a part of a row overwritten, from a place on
unfoldable pub placed : ℕ → List ℕ → List ℕ → List ℕ
placed k w ys = take k ys ++ (w ++ drop (k + length w) ys)

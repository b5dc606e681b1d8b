-- A number read byte by byte.
use Rattle.std.proofs.Common.{◌≡◌, ℕ, ◌+◌, ◌*◌, ◌^◌, ◌<◌, ◌≤◌, List, [], ◌∷◌, length, get_or, take, drop, sym, ap, ◌∙◌, pow-suc, add-one, arith, lit<}
use native.Mathlib.Nat.{pow-le-pow_right}
use Rattle.std.proofs.lemmas.List.{at_drop_more, at_drop_all, take_all}
use Rattle.pages.specs.Bytes.{from_eight}

pub byte_more : (n b i : ℕ) → n < 256 ^ i → b < 256 → 256 * n + b < 256 ^ (i + 1)
byte_more n b i h k = rw (add-one i, pow-suc 256 i) (omega arith)

pub fits_byte : (n b i : ℕ) → n < 256 ^ i → b < 256 → i < 8 → 256 * n + b < 2 ^ 64
fits_byte n b i h k l = let p : i ≤ 7 = omega arith in let q = pow-le-pow_right {n = 256} (lit< tt) p in omega arith

pub from_eight_more : (n : ℕ) (bs : List ℕ) (i : ℕ) → i < length bs → from_eight n (drop i bs) ≡ from_eight (256 * n + get_or bs i 0) (drop (i + 1) bs)
unfolding from_eight
from_eight_more n bs i h = at_drop_more (from_eight n) bs i 0 h

pub from_eight_all : (n : ℕ) (bs : List ℕ) (i : ℕ) → length bs ≤ i → from_eight n (drop i bs) ≡ n
unfolding from_eight
from_eight_all n bs i h = at_drop_all (from_eight n) bs i h

-- the same, eight bytes at once
abbrev pub at_once : List ℕ → ℕ
at_once bs =
    get_or bs 0 0 * 72057594037927936 + get_or bs 1 0 * 281474976710656 + get_or bs 2 0 * 1099511627776 + get_or bs 3 0 * 4294967296 + get_or bs 4 0 * 16777216 + get_or bs 5 0 * 65536 + get_or bs 6 0 * 256
    + get_or bs 7 0

pub from_eight_at_once : (bs : List ℕ) → 8 ≤ length bs → from_eight 0 (take 8 bs) ≡ at_once bs
unfolding from_eight
from_eight_at_once [] h = absurd (omega arith)
from_eight_at_once (a ∷ []) h = absurd (omega arith)
from_eight_at_once (a ∷ b ∷ []) h = absurd (omega arith)
from_eight_at_once (a ∷ b ∷ c ∷ []) h = absurd (omega arith)
from_eight_at_once (a ∷ b ∷ c ∷ d ∷ []) h = absurd (omega arith)
from_eight_at_once (a ∷ b ∷ c ∷ d ∷ e ∷ []) h = absurd (omega arith)
from_eight_at_once (a ∷ b ∷ c ∷ d ∷ e ∷ f ∷ []) h = absurd (omega arith)
from_eight_at_once (a ∷ b ∷ c ∷ d ∷ e ∷ f ∷ g ∷ []) h = absurd (omega arith)
from_eight_at_once (a ∷ b ∷ c ∷ d ∷ e ∷ f ∷ g ∷ i ∷ bs) h = omega arith

-- where there are no more
pub eight_at_once : (bs : List ℕ) → length bs ≡ 8 → from_eight 0 bs ≡ at_once bs
eight_at_once bs h = ap (from_eight 0) (sym (take_all 8 bs (omega arith))) ∙ from_eight_at_once bs (omega arith)

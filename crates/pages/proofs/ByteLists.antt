-- Lists of bytes, and numbers of eight of them.
use Rattle.std.proofs.Common.{◌≡◌, ℕ, zero, suc, ◌+◌, ◌*◌, ◌/◌, ◌%◌, ◌^◌, ◌<◌, ◌≤◌, true, List, [], ◌∷◌, ◌++◌, length, get_or, take, drop, refl, ap, ◌∙◌, add-zero, pow-suc, arith}
use Rattle.std.proofs.lemmas.Bool.{lt-ltb, ltb-true, and_from, and_parts}
use Rattle.std.proofs.lemmas.List.{append-nil}
use Rattle.pages.specs.Bytes.{all_bytes, in_bytes, eight, from_eight}

pub bytes_from : (bs : List ℕ) → ((i : ℕ) → get_or bs i 0 < 256) → all_bytes bs ≡ true
bytes_from [] h = refl
bytes_from (b ∷ bs) h = and_from _ _ (lt-ltb b 256 (h 0)) (bytes_from bs (λ i. h (suc i)))

pub bytes_append : (xs bs : List ℕ) → all_bytes xs ≡ true → all_bytes bs ≡ true → all_bytes (xs ++ bs) ≡ true
bytes_append [] bs h k = k
bytes_append (a ∷ xs) bs h k = let p = and_parts _ _ h in and_from _ _ p.0 (bytes_append xs bs p.1 k)

pub bytes_drop : (n : ℕ) (bs : List ℕ) → all_bytes bs ≡ true → all_bytes (drop n bs) ≡ true
bytes_drop zero bs h = h
bytes_drop (suc n) [] h = refl
bytes_drop (suc n) (b ∷ bs) h = bytes_drop n bs (and_parts _ _ h).1

pub bytes_take : (n : ℕ) (bs : List ℕ) → all_bytes bs ≡ true → all_bytes (take n bs) ≡ true
bytes_take zero bs h = refl
bytes_take (suc n) [] h = refl
bytes_take (suc n) (b ∷ bs) h = let p = and_parts _ _ h in and_from _ _ p.0 (bytes_take n bs p.1)

pub bytes_in_bytes : (k n : ℕ) (bs : List ℕ) → all_bytes bs ≡ true → all_bytes (in_bytes k n bs) ≡ true
unfolding in_bytes
bytes_in_bytes zero n bs h = h
bytes_in_bytes (suc k) n bs h = bytes_in_bytes k (n / 256) (n % 256 ∷ bs) (and_from _ _ (lt-ltb (n % 256) 256 (omega arith)) h)

pub bytes_eight : (n : ℕ) → all_bytes (eight n) ≡ true
bytes_eight n = bytes_in_bytes 8 n [] refl

pub length_eight : (n : ℕ) → length (eight n) ≡ 8
unfolding in_bytes
length_eight n = refl

pub take_eight : (n : ℕ) (r : List ℕ) → take 8 (eight n ++ r) ≡ eight n
unfolding in_bytes
take_eight n r = refl

-- the number of bytes that a number was written in
pub from_in_bytes : (k n : ℕ) (bs : List ℕ) → n < 256 ^ k → from_eight 0 (in_bytes k n bs) ≡ from_eight n bs
unfolding in_bytes from_eight
from_in_bytes zero n bs h = let e : 0 ≡ n = omega arith in ap (λ m. from_eight m bs) e
from_in_bytes (suc k) n bs h =
    let p : n < 256 ^ k * 256 = rw (pow-suc 256 k) at h in
    let q : n / 256 < 256 ^ k = omega arith in
    let e : 256 * (n / 256) + n % 256 ≡ n = omega arith in
    from_in_bytes k (n / 256) (n % 256 ∷ bs) q ∙ ap (λ m. from_eight m bs) e

pub from_eight_eight : (n : ℕ) → n ≤ 18446744073709551615 → from_eight 0 (eight n) ≡ n
unfolding from_eight
from_eight_eight n h = from_in_bytes 8 n [] (omega arith)

-- and back
in_bytes_from : (j m : ℕ) (bs cs : List ℕ) → all_bytes bs ≡ true → in_bytes (j + length bs) (from_eight m bs) cs ≡ in_bytes j m (bs ++ cs)
unfolding in_bytes from_eight
in_bytes_from j m [] cs h = rw (add-zero j)
in_bytes_from j m (b ∷ bs) cs h =
    let p = and_parts _ _ h in
    let l : b < 256 = ltb-true b 256 p.0 in
    let d : (256 * m + b) / 256 ≡ m = omega arith in
    let r : (256 * m + b) % 256 ≡ b = omega arith in
    let e : j + suc (length bs) ≡ suc j + length bs = omega arith in
    rw e (in_bytes_from (suc j) (256 * m + b) bs cs p.1 ∙ rw (d, r))

pub eight_from_eight : (bs : List ℕ) → all_bytes bs ≡ true → length bs ≡ 8 → eight (from_eight 0 bs) ≡ bs
unfolding in_bytes
eight_from_eight bs h l =
    let e : in_bytes (0 + length bs) (from_eight 0 bs) [] ≡ bs ++ [] = in_bytes_from 0 0 bs [] h in
    let z : 0 + length bs ≡ 8 = omega arith in
    rw z at e ∙ append-nil bs

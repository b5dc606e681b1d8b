-- Numbers below 2^64, in lists.
use Rattle.std.proofs.Common.{◌≡◌, ℕ, zero, suc, ◌%◌, ◌<◌, true, List, [], ◌∷◌, ◌++◌, get_or, take, drop, refl, arith, lit<}
use Rattle.std.proofs.lemmas.Bool.{lt-ltb, ltb-true, and_from, and_parts}
use Rattle.pages.specs.Bytes.{all_bytes, low_bytes, placed}
use Rattle.pages.specs.Device.{zeros}
use Rattle.pages.specs.Fields.{at, pad}
use Rattle.pages.specs.Run.{all_small}
use Rattle.pages.proofs.ByteLists.{bytes_append, bytes_drop, bytes_take}
use Rattle.pages.proofs.Header.{number_small}
use Rattle.pages.proofs.Parts.{every_drop, every_placed}

-- bytes are small
pub bytes_small : (bs : List ℕ) → all_bytes bs ≡ true → all_small bs ≡ true
unfolding all_small
bytes_small [] h = refl
bytes_small (b ∷ bs) h =
    let p = and_parts _ _ h in
    let l = ltb-true b 256 p.0 in
    and_from _ _ (lt-ltb b 18446744073709551616 (omega arith)) (bytes_small bs p.1)

pub bytes_low : (ws : List ℕ) → all_bytes (low_bytes ws) ≡ true
bytes_low [] = refl
bytes_low (w ∷ ws) = and_from _ _ (lt-ltb (w % 256) 256 (omega arith)) (bytes_low ws)

pub bytes_zeros : (n : ℕ) → all_bytes (zeros n) ≡ true
unfolding zeros
bytes_zeros zero = refl
bytes_zeros (suc n) = bytes_zeros n

pub bytes_pad : (w : ℕ) (xs : List ℕ) → all_bytes xs ≡ true → all_bytes (pad w xs) ≡ true
unfolding pad
bytes_pad w xs h = bytes_take w (xs ++ zeros w) (bytes_append xs (zeros w) h (bytes_zeros w))

-- so is a number of eight of them
pub at_small : (k : ℕ) (bs : List ℕ) → all_bytes bs ≡ true → at k 8 bs < 18446744073709551616
unfolding at
at_small k bs h = number_small (drop k bs) (bytes_drop k bs h)

-- what is small has small numbers, in each of its parts
pub small_at : (ws : List ℕ) (i : ℕ) → all_small ws ≡ true → get_or ws i 0 < 18446744073709551616
unfolding all_small
small_at [] i h = lit< tt
small_at (w ∷ ws) zero h = ltb-true _ _ (and_parts _ _ h).0
small_at (w ∷ ws) (suc i) h = small_at ws i (and_parts _ _ h).1

pub small_more : (w : ℕ) (ws : List ℕ) → w < 18446744073709551616 → all_small ws ≡ true → all_small (w ∷ ws) ≡ true
unfolding all_small
small_more w ws l h = and_from _ _ (lt-ltb w 18446744073709551616 l) h

pub small_take : (n : ℕ) (ws : List ℕ) → all_small ws ≡ true → all_small (take n ws) ≡ true
unfolding all_small
small_take zero ws h = refl
small_take (suc n) [] h = refl
small_take (suc n) (w ∷ ws) h = let p = and_parts _ _ h in and_from _ _ p.0 (small_take n ws p.1)

pub small_drop : (n : ℕ) (ws : List ℕ) → all_small ws ≡ true → all_small (drop n ws) ≡ true
unfolding all_small
small_drop n ws h = every_drop _ n ws h

pub small_placed : (k : ℕ) (ws xs : List ℕ) → all_small ws ≡ true → all_small xs ≡ true → all_small (placed k ws xs) ≡ true
unfolding all_small
small_placed k ws xs h g = every_placed _ k ws xs h g

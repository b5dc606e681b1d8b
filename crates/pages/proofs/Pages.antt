-- Rows of pages: one page set, blank ones, and what a torn write leaves of one.
use Rattle.std.proofs.Common.{◌≡◌, ℕ, zero, suc, ◌-◌, ◌<◌, true, List, [], ◌∷◌, ◌++◌, length, take, drop, refl, ap, arith}
use Rattle.std.proofs.lemmas.Bool.{and_from, and_parts, eq-eqb, eqb-true}
use Rattle.std.proofs.lemmas.List.{length-append, length-drop, length-take-le}
use Rattle.pages.specs.Device.{Page, set_page, page_at, half, zeros, blank, a_page}
use Rattle.pages.proofs.ByteLists.{bytes_append, bytes_drop, bytes_take}

pub length_set_page : (xs : List Page) (k : ℕ) (p : Page) → length (set_page xs k p) ≡ length xs
unfolding set_page
length_set_page [] k p = refl
length_set_page (x ∷ xs) zero p = refl
length_set_page (x ∷ xs) (suc k) p = ap suc (length_set_page xs k p)

pub page_at_set : (xs : List Page) (k : ℕ) (p : Page) → k < length xs → page_at (set_page xs k p) k ≡ p
unfolding page_at set_page
page_at_set [] k p h = let no : ⊥ = omega arith in absurd no
page_at_set (x ∷ xs) zero p h = refl
page_at_set (x ∷ xs) (suc k) p h = page_at_set xs k p (omega arith)

pub page_at_other : (xs : List Page) (k j : ℕ) (p : Page) → ¬ (k ≡ j) → page_at (set_page xs k p) j ≡ page_at xs j
unfolding page_at set_page
page_at_other [] k j p h = refl
page_at_other (x ∷ xs) zero zero p h = absurd (h refl)
page_at_other (x ∷ xs) zero (suc j) p h = refl
page_at_other (x ∷ xs) (suc k) zero p h = refl
page_at_other (x ∷ xs) (suc k) (suc j) p h = page_at_other xs k j p (λ q. h (ap suc q))

pub length_blank : (n : ℕ) → length (blank n) ≡ n
unfolding blank
length_blank zero = refl
length_blank (suc n) = ap suc (length_blank n)

pub blank_at : (n k : ℕ) → k < n → page_at (blank n) k ≡ zeros 512
unfolding blank page_at
blank_at zero k h = absurd (omega arith)
blank_at (suc n) zero h = refl
blank_at (suc n) (suc k) h = blank_at n k (omega arith)

pub zeros_page : a_page (zeros 512) ≡ true
unfolding zeros
zeros_page = refl

pub page_long : (p : Page) → a_page p ≡ true → length p ≡ 512
page_long p h = eqb-true _ _ (and_parts _ _ h).0

-- a torn page of two pages is a page
pub half_page : (p q : Page) → a_page p ≡ true → a_page q ≡ true → a_page (half p q) ≡ true
unfolding half
half_page p q h k =
    let lp : length p ≡ 512 = page_long p h in
    let lq : length q ≡ 512 = page_long q k in
    let t : length (take 256 p) ≡ 256 = length-take-le 256 p (omega arith) in
    let d : length (drop 256 q) ≡ length q - 256 = length-drop 256 q in
    let l = length-append (take 256 p) (drop 256 q) in
    let w : length (take 256 p ++ drop 256 q) ≡ 512 = omega arith in
    and_from _ _ (eq-eqb _ _ w)
    (bytes_append (take 256 p) (drop 256 q) (bytes_take 256 p (and_parts _ _ h).1) (bytes_drop 256 q (and_parts _ _ k).1))

-- Numbers one after another: none stands there twice, and how many there are.
use Rattle.std.proofs.Common.{◌≡◌, ℕ, zero, suc, ◌+◌, ◌<◌, ◌≤◌, Bool, true, false, eqb, length, refl, ap, inl, inr, zero-le, arith}
use Rattle.std.proofs.lemmas.Bool.{eqb-true}
use Rattle.pages.specs.Cells.{times}
use Rattle.pages.proofs.Cells.{zero_or}
use Rattle.recurrence.specs.Span.{days_from}

pub times_days : (a n k : ℕ) → (times (days_from a n) k ≤ 1) × (1 ≤ times (days_from a n) k → (a ≤ k) × (k < a + n))
unfolding times days_from
times_days a zero k = (zero-le, λ h. let no : ⊥ = omega arith in absurd no)
times_days a (suc n) k = go (eqb a k) refl (times_days (suc a) n k)
  where
    go : (t : Bool) → eqb a k ≡ t → (times (days_from (suc a) n) k ≤ 1) × (1 ≤ times (days_from (suc a) n) k → (suc a ≤ k) × (k < suc a + n)) →
        (times (days_from a (suc n)) k ≤ 1) × (1 ≤ times (days_from a (suc n)) k → (a ≤ k) × (k < a + suc n))
    go true q ih =
        let e = eqb-true a k q in
        let z : times (days_from (suc a) n) k ≡ 0 = elim (zero_or (times (days_from (suc a) n) k)) [ inl z ↦ z | inr p ↦ let r = ih.1 p in omega arith ] in
        rw q (omega arith, λ h. omega arith)
    go false q ih = rw q (omega (arith, ih.0), λ h. let z = ih.1 (omega arith) in omega arith)

pub length_days : (a n : ℕ) → length (days_from a n) ≡ n
unfolding days_from
length_days a zero = refl
length_days a (suc n) = ap suc (length_days (suc a) n)

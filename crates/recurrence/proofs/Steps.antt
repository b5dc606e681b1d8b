-- Division by a step that is not known, and what falls by each kind.
use Rattle.std.proofs.Common.{◌≡◌, ℕ, suc, ◌+◌, ◌-◌, ◌*◌, ◌/◌, ◌%◌, ◌<◌, ◌≤◌, min, Bool, true, false, ◌&&◌, eqb, ◌⊎◌, ap, ◌∙◌, inl, inr, mod-lt, mod-eq_of_lt, arith}
use native.Mathlib.Nat.{div-add-mod, mul-add-div, mul-add-mod_self_left, div-eq_of_lt}
use Rattle.std.proofs.lemmas.Bool.Decides.{nat_tests}
use Rattle.std.proofs.lemmas.Bool.{cases_lt}
use Rattle.pages.specs.Lists.{pick}
use Rattle.dates.specs.Date.{weekday, week}
use Rattle.recurrence.specs.Event.{Repeat, has, falls}
use Rattle.recurrence.specs.ByRule.{fits}

pub parted : (n s q m : ℕ) → 0 < s → m < s → n ≡ s * q + m → (n / s ≡ q) × (n % s ≡ m)
parted n s q m h l e = (
  rw e (mul-add-div h q m ∙ ap (λ x. q + x) (div-eq_of_lt l) ∙ omega arith),
  rw e (mul-add-mod_self_left s q m ∙ mod-eq_of_lt l),
)

pub div_suc : (n s : ℕ) → 0 < s → ((suc n % s ≡ 0) × (suc n / s ≡ n / s + 1)) ⊎ ((0 < suc n % s) × (suc n / s ≡ n / s))
div_suc n s h =
    let e : s * (n / s) + n % s ≡ n = div-add-mod n s in
    let l : n % s < s = mod-lt n h in
    elim (cases_lt (suc (n % s)) s) [
      | inl k ↦ (let p = parted (suc n) s (n / s) (suc (n % s)) h k (omega arith) in inr (omega arith, p.0))
      | inr k ↦ (let p = parted (suc n) s (n / s + 1) 0 h h (omega arith) in inl (p.1, p.0))
    ]

-- a quotient that is rounded up
pub ceil_is : (n s : ℕ) → 0 < s → (n + s - 1) / s ≡ n / s + min 1 (n % s)
ceil_is n s h =
    let e : s * (n / s) + n % s ≡ n = div-add-mod n s in
    let l : n % s < s = mod-lt n h in
    elim (cases_lt 0 (n % s)) [
      | inl k ↦ (let p = parted (n + s - 1) s (n / s + 1) (n % s - 1) h (omega arith) (omega arith) in omega (arith, p.0))
      | inr k ↦ (let p = parted (n + s - 1) s (n / s) (s - 1) h (omega arith) (omega arith) in omega (arith, p.0))
    ]

-- how far past a multiple of the step a sum is
pub sum_past : (m k s : ℕ) → 0 < s → m % s + k < s → (m + k) % s ≡ m % s + k
sum_past m k s h l = (parted (m + k) s (m / s) (m % s + k) h l (omega (arith, div-add-mod m s))).1

pub sum_whole : (m k s : ℕ) → 0 < s → m % s + k ≡ s → (m + k) % s ≡ 0
sum_whole m k s h l = (parted (m + k) s (m / s + 1) 0 h h (omega (arith, div-add-mod m s))).1

-- its kind's test alone, with no first and last day
abbrev pub due : Repeat → ℕ → ℕ → Bool
due r f d =
    pick (eqb r.kind 0) (eqb d f)
    (pick (eqb r.kind 1) (eqb ((d - f) % r.step) 0) (has r.weekdays (weekday d) && eqb ((week d - week f) % r.step) 0))

pub falls_past : (r : Repeat) (f d : ℕ) → ((d < f) ⊎ (r.last < d)) → falls r f d ≡ false
unfolding falls
falls_past r f d h = grind (arith, nat_tests)

pub falls_due : (r : Repeat) (f d : ℕ) → r.kind ≤ 2 → f ≤ d → d ≤ r.last → falls r f d ≡ due r f d
unfolding falls
falls_due r f d k l m = grind (arith, nat_tests)

pub fits_parts : (r : Repeat) (f : ℕ) → fits r f ≡ true → (r.kind ≤ 2) × (0 < r.step)
fits_parts r f h = (grind (arith, nat_tests), grind (arith, nat_tests))

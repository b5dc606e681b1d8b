-- An event with a number of times has no more.
use Rattle.std.proofs.Common.{◌≡◌, ℕ, zero, suc, ◌+◌, ◌-◌, ◌<◌, ◌≤◌, true, ◌⊎◌, refl, ap, inl, inr, arith}
use Rattle.std.proofs.lemmas.Bool.Decides.{nat_tests}
use Rattle.std.proofs.lemmas.Bool.{cases_Bool}
use Rattle.pages.specs.Lists.{pick}
use Rattle.recurrence.specs.Event.{Event, falls, so_often, occurs}
use Rattle.recurrence.specs.Span.{days_from}
use Rattle.recurrence.specs.Promise.{count_in, NoMoreTimes}

-- how often before so many days after the first
before : (e : Event) → ℕ → ℕ
before e zero = 0
before e (suc k) = so_often e.repeat e.first k

before_suc : (e : Event) (k : ℕ) → before e (suc k) ≡ before e k + pick (falls e.repeat e.first (e.first + k)) 1 0
unfolding before so_often
before_suc e zero = let b : e.first + 0 ≡ e.first = omega arith in rw b (omega arith)
before_suc e (suc k) = refl

-- a day on which it occurs is one of its falls, and no later than the last of its times
occurs_then : (e : Event) (k : ℕ) → 0 < e.repeat.times → occurs e (e.first + k) ≡ true →
    (falls e.repeat e.first (e.first + k) ≡ true) × (before e (suc k) ≤ e.repeat.times)
unfolding occurs before
occurs_then e k h o =
    let b : e.first + k - e.first ≡ k = omega arith in
    let c = ap (so_often e.repeat e.first) b in
    (grind (arith, nat_tests), grind (arith, nat_tests))

count_more : (e : Event) (d n : ℕ) → count_in e (days_from d (suc n)) ≡ pick (occurs e d) 1 0 + count_in e (days_from (suc d) n)
unfolding count_in days_from
count_more e d n = elim (cases_Bool (occurs e d)) [ inl h ↦ rw h (omega arith) | inr h ↦ rw h (omega arith) ]

none_empty : (e : Event) (d : ℕ) → count_in e (days_from d 0) ≡ 0
unfolding count_in days_from
none_empty e d = refl

fewer : (e : Event) (n k : ℕ) → 0 < e.repeat.times →
    (before e k + count_in e (days_from (e.first + k) n) ≤ e.repeat.times) ⊎ (count_in e (days_from (e.first + k) n) ≡ 0)
fewer e zero k h = inr (none_empty e (e.first + k))
fewer e (suc n) k h =
    let t : ℕ = e.first + k in
    let b : suc (e.first + k) ≡ e.first + suc k = omega arith in
    let m = rw b at (count_more e t n) in
    let s = before_suc e k in
    elim (cases_Bool (occurs e t)) [
      | inl o ↦ (
          let w = occurs_then e k h o in
          let m₁ = rw o at m in
          let s₁ = rw w.0 at s in
          elim (fewer e n (suc k) h) [ inl i ↦ inl (omega (arith, w.1)) | inr i ↦ inl (omega (arith, w.1)) ])
      | inr o ↦ (
          let m₁ = rw o at m in
          elim (fewer e n (suc k) h) [ inl i ↦ inl (omega arith) | inr i ↦ inr (omega arith) ])
    ]

pub no_more_times : NoMoreTimes
unfolding NoMoreTimes before
no_more_times e n h =
    let b : e.first + 0 ≡ e.first = omega arith in
    let f = rw b at (fewer e n 0 h) in
    elim f [ inl i ↦ omega arith | inr i ↦ omega arith ]

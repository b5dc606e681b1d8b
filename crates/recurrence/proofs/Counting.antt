-- The closed forms count what the definition counts by looking at every day.
use Rattle.std.proofs.Common.{◌≡◌, ℕ, zero, suc, ◌+◌, ◌-◌, ◌/◌, ◌%◌, ◌<◌, ◌≤◌, min, cond, Bool, ◌&&◌, eqb, leb, ◌⊎◌, sym, refl, ap, ◌∙◌, inl, inr, mul-add, add-one, arith}
use native.Mathlib.Nat.{div-eq_of_lt, zero-mod, zero-div, sub_self, add-mod_right}
use Rattle.std.specs.List.{count_by, range_with_len}
use Rattle.std.proofs.lemmas.List.Sums.{sum_by-cons}
use Rattle.std.proofs.lemmas.Bool.Decides.{nat_tests}
use Rattle.std.proofs.lemmas.Bool.{cases_lt, le-leb, lt-leb, lt-ltb, le-ltb}
use Rattle.pages.specs.Lists.{or, pick}
use Rattle.dates.specs.Date.{weekday, week}
use Rattle.recurrence.specs.Event.{Repeat, has, so_often}
use Rattle.recurrence.specs.ByRule.{on_before, weeks_often, often_weekly, often_due, often}
use Rattle.recurrence.specs.First.{fallen, in_times}
use Rattle.recurrence.proofs.Steps.{div_suc, due, falls_past, falls_due}

pub on_before_suc : (on : ℕ → Bool) (k : ℕ) → on_before on (k + 1) ≡ on_before on k + pick (on k) 1 0
unfolding on_before
on_before_suc on k = rw add-one

pub on_before_none : (on : ℕ → Bool) → on_before on 0 ≡ 0
unfolding on_before
on_before_none on = refl

-- as `filter` and `count` give it, by a test of the same days
pub counted_from : (on test : ℕ → Bool) → ((k : ℕ) → on k ≡ test k) → (w n : ℕ) → on_before on (w + n) ≡ on_before on w + count_by test (range_with_len w n)
counted_from on test h w zero = let e : w + 0 ≡ w = omega arith in rw e (omega arith)
counted_from on test h w (suc n) =
    let e : w + suc n ≡ w + 1 + n = omega arith in
    let i = counted_from on test h (w + 1) n in
    let o = rw (h w) at (on_before_suc on w) in
    let s = sum_by-cons (λ x. cond (test x) 1 0) w (range_with_len (w + 1) n) in
    rw e (grind (arith, nat_tests))

ceil_suc : (j s : ℕ) → 0 < s →
    ((j % s ≡ 0) × ((suc j + s - 1) / s ≡ (j + s - 1) / s + 1)) ⊎ ((0 < j % s) × ((suc j + s - 1) / s ≡ (j + s - 1) / s))
ceil_suc j s h =
    let a : suc (j + s - 1) ≡ j + s = omega arith in
    let b : suc j + s - 1 ≡ j + s = omega arith in
    let m = add-mod_right j s in
    let d = div_suc (j + s - 1) s h in
    rw b (rw (a, m) at d)

module _ (on : ℕ → Bool) (s : ℕ) (pos : 0 < s) where
  -- one day on in the same week
  same_week : (j w : ℕ) → weeks_often on s j (suc w) ≡ weeks_often on s j w + pick (on (suc w) && eqb (j % s) 0) 1 0
  unfolding weeks_often on_before
  same_week j w = grind (arith, nat_tests)

  monday : on_before on 1 ≡ pick (on 0) 1 0
  unfolding on_before
  monday = grind (arith, nat_tests)

  -- from a Sunday to a Monday
  to_monday : (j : ℕ) → weeks_often on s (suc j) 0 ≡ weeks_often on s j 6 + pick (on 0 && eqb (suc j % s) 0) 1 0
  unfolding weeks_often
  to_monday j =
      let m : on_before on 1 ≡ pick (on 0) 1 0 = monday in
      elim (ceil_suc j s pos) [
        | inl c ↦ rw (c.0, c.1, mul-add) (grind (arith, nat_tests))
        | inr c ↦ rw c.1 (grind (arith, nat_tests))
      ]

  one_more : (f d : ℕ) → f ≤ d →
      weeks_often on s (week (suc d) - week f) (weekday (suc d))
      ≡ weeks_often on s (week d - week f) (weekday d) + pick (on (weekday (suc d)) && eqb ((week (suc d) - week f) % s) 0) 1 0
  one_more f d l =
      elim (cases_lt (weekday d) 6) [
        | inl k ↦ (
            let a : week (suc d) - week f ≡ week d - week f = omega arith in
            let b : weekday (suc d) ≡ suc (weekday d) = omega arith in
            rw (a, b) (same_week (week d - week f) (weekday d)))
        | inr k ↦ (
            let a : week (suc d) - week f ≡ suc (week d - week f) = omega arith in
            let b : weekday (suc d) ≡ 0 = omega arith in
            let e : weekday d ≡ 6 = omega arith in
            rw (a, b, e) (to_monday (week d - week f)))
      ]

  on_first : (f : ℕ) → weeks_often on s (week f - week f) (weekday f) ≡ on_before on (weekday f) + pick (on (weekday f)) 1 0
  unfolding weeks_often on_before
  on_first f =
      let a : week f - week f ≡ 0 = omega arith in
      let b : (0 + s - 1) / s ≡ 0 = div-eq_of_lt (omega arith) in
      let c = zero-mod s in
      rw (a, b, c) (omega arith)

  -- what comes before the first day in its week is no more than all up to a later one
  pub grows : (f n : ℕ) → on_before on (weekday f) ≤ weeks_often on s (week (f + n) - week f) (weekday (f + n))
  grows f zero = let b : f + 0 ≡ f = omega arith in rw (b, on_first f) (omega arith)
  grows f (suc n) =
      let b : f + suc n ≡ suc (f + n) = omega arith in
      rw (b, one_more f (f + n) (omega arith)) (omega (arith, grows f n))

  weekly_none : (f : ℕ) → often_weekly on s f 0 ≡ pick (on (weekday f)) 1 0
  weekly_none f = let b : f + 0 ≡ f = omega arith in rw (b, on_first f) (omega arith)

  weekly_suc : (f n : ℕ) →
      often_weekly on s f (suc n) ≡ often_weekly on s f n + pick (on (weekday (f + suc n)) && eqb ((week (f + suc n) - week f) % s) 0) 1 0
  weekly_suc f n =
      let b : f + suc n ≡ suc (f + n) = omega arith in
      rw (b, one_more f (f + n) (omega arith)) (omega (arith, grows f n))

-- of whatever kind: nothing past the last day
capped : (r : Repeat) (f n : ℕ) → so_often r f n ≡ pick (leb f r.last) (so_often r f (min n (r.last - f))) 0
unfolding so_often
capped r f zero =
    elim (cases_lt r.last f) [
      | inl l ↦ rw (lt-leb f r.last l, falls_past r f f (inr l))
      | inr l ↦ (let m : min 0 (r.last - f) ≡ 0 = omega arith in rw (le-leb f r.last l, m))
    ]
capped r f (suc n) =
    let i = capped r f n in
    elim (cases_lt r.last f) [
      | inl l ↦ (let p = falls_past r f (f + suc n) (inr (omega arith)) in let k = lt-leb f r.last l in rw (k, p, i, k))
      | inr l ↦ (
          let k = le-leb f r.last l in
          elim (cases_lt r.last (f + suc n)) [
            | inl t ↦ (
                let m : min (suc n) (r.last - f) ≡ r.last - f = omega arith in
                let o : min n (r.last - f) ≡ r.last - f = omega arith in
                let p = falls_past r f (f + suc n) (inr t) in
                rw (k, p, m, i, k, o) (omega arith))
            | inr t ↦ (let m : min (suc n) (r.last - f) ≡ suc n = omega arith in rw (k, m))
          ])
    ]

module _ (r : Repeat) (f : ℕ) (kind : r.kind ≤ 2) (pos : 0 < r.step) where
  due_none : often_due r f 0 ≡ pick (due r f f) 1 0
  due_none =
      let a : (f - f) % r.step ≡ 0 = rw (sub_self f, zero-mod r.step) in
      let b : (week f - week f) % r.step ≡ 0 = rw (sub_self (week f), zero-mod r.step) in
      let c = zero-div r.step in
      let w = weekly_none (has r.weekdays) r.step pos f in
      grind (arith, nat_tests)

  due_suc : (n : ℕ) → often_due r f (suc n) ≡ often_due r f n + pick (due r f (f + suc n)) 1 0
  due_suc n =
      let a : f + suc n - f ≡ suc n = omega arith in
      let d = div_suc n r.step pos in
      let w = weekly_suc (has r.weekdays) r.step pos f n in
      grind (arith, nat_tests)

  due_often : (n : ℕ) → f + n ≤ r.last → so_often r f n ≡ often_due r f n
  unfolding so_often
  due_often zero l = ap (λ b. pick b 1 0) (falls_due r f f kind (omega arith) (omega arith)) ∙ sym due_none
  due_often (suc n) l =
      rw (falls_due r f (f + suc n) kind (omega arith) l, due_often n (omega arith)) (sym (due_suc n))

  pub often_is : (n : ℕ) → often r f n ≡ so_often r f n
  unfolding often
  often_is n =
      elim (cases_lt r.last f) [
        | inl l ↦ rw (capped r f n, lt-leb f r.last l)
        | inr l ↦ rw (capped r f n, le-leb f r.last l) (sym (due_often (min n (r.last - f)) (omega arith)))
      ]

-- up to a day: it falls on none past its last day
pub fallen_is : (r : Repeat) (f d : ℕ) → r.kind ≤ 2 → 0 < r.step → fallen r f d ≡ pick (leb f (min d r.last)) (often_due r f (min d r.last - f)) 0
unfolding often
fallen_is r f d kind pos =
    elim (cases_lt d f) [
      | inl l ↦ (let m : min d r.last < f = omega arith in rw (lt-ltb d f l, lt-leb f (min d r.last) m))
      | inr l ↦ rw (le-ltb d f l, ← (often_is r f kind pos (d - f))) (elim (cases_lt r.last f) [
        | inl n ↦ (let m : min d r.last < f = omega arith in rw (lt-leb f r.last n, lt-leb f (min d r.last) m))
        | inr n ↦ (
            let m : f ≤ min d r.last = omega arith in
            let e : min (d - f) (r.last - f) ≡ min d r.last - f = omega arith in
            rw (le-leb f r.last n, le-leb f (min d r.last) m, e))
      ])
    ]

-- before its first day none of its times has come
pub in_times_is : (r : Repeat) (f d : ℕ) → in_times r f d ≡ or (eqb r.times 0) (leb (fallen r f d) r.times)
unfolding so_often
in_times_is r f d =
    elim (cases_lt d f) [
      | inl l ↦ (let e : d - f ≡ 0 = omega arith in rw (lt-ltb d f l, e) (grind (arith, nat_tests)))
      | inr l ↦ rw (le-ltb d f l) (grind (arith, nat_tests))
    ]

-- The first day from one on, by each kind.
use Rattle.std.proofs.Common.{◌≡◌, ℕ, zero, suc, ◌+◌, ◌-◌, ◌*◌, ◌%◌, ◌<◌, ◌≤◌, max, Bool, true, false, ◌&&◌, eqb, ◌⊎◌, Some, None, Option, Result, sym, refl, ap, ◌∙◌, inl, inr, mod-lt, add-one, arith, MatchOption, nat_eq}
use Rattle.std.specs.List.{find, range_with_len}
use Rattle.std.specs.Option.{option_eq}
use Rattle.std.proofs.lemmas.Bool.Decides.{nat_tests}
use Rattle.std.proofs.lemmas.Bool.{cases_Bool, cases_lt, cases_eq, le-leb, lt-leb, eq-eqb, ne_eqb, and_right, and_left}
use Rattle.pages.specs.Lists.{pick}
use Rattle.dates.specs.Date.{weekday, week}
use Rattle.recurrence.specs.Event.{Repeat, has, falls, so_often}
use Rattle.recurrence.specs.ByRule.{fits, known, next_daily, on_from, in_week, or_else, weeks_past, next_weekly, up_to, next_due, next_day, often}
use Rattle.recurrence.specs.Value.{repeat_of}
use Rattle.recurrence.specs.declared.rule.Rule.{Rule}
use Rattle.recurrence.specs.First.{First, NoneFrom, Next, RulesRight, answer, Tells}
use Rattle.recurrence.specs.declared.rule.NotKnown.{NotKnown}
use Rattle.recurrence.proofs.Steps.{sum_past, sum_whole, due, falls_past, falls_due, fits_parts}
use Rattle.recurrence.proofs.Counting.{often_is}

daily_is : (s f a : ℕ) → 0 < s → f ≤ a → First (λ d. eqb ((d - f) % s) 0) a (next_daily s f a)
daily_is s f a h l =
    let m : ℕ = a - f in
    let b : m % s < s = mod-lt m h in
    elim (cases_eq (m % s) 0) [
      | inl e ↦ (
          let q : eqb (m % s) 0 ≡ true = eq-eqb (m % s) 0 e in
          rw q (record { comes = q; from = omega arith; first = λ t p r. absurd (omega arith) }))
      | inr e ↦ rw (ne_eqb (m % s) 0 e) (record {
        comes = (
            let v : a + (s - m % s) - f ≡ m + (s - m % s) = omega arith in
            rw (v, sum_whole m (s - m % s) s h (omega arith)));
        from = omega arith;
        first = λ t p q. (
            let v : t - f ≡ m + (t - a) = omega arith in
            rw v (ne_eqb ((m + (t - a)) % s) 0 (let w = sum_past m (t - a) s h (omega arith) in omega arith)));
      })
    ]

-- the first weekday from one on, among so many
abbrev Among : (ℕ → Bool) → ℕ → ℕ → Option ℕ → Type 0
Among on w n o = MatchOption o ((t : ℕ) → w ≤ t → t < w + n → on t ≡ false) (λ x. (x < w + n) × First on w x)

on_from_is : (on : ℕ → Bool) (w n : ℕ) → Among on w n (on_from on w n)
unfolding on_from
on_from_is on w zero = λ t l m. absurd (omega arith)
on_from_is on w (suc n) =
    elim (cases_Bool (on w)) [
      | inl h ↦ rw h (omega arith, record { comes = h; from = omega arith; first = λ t p q. absurd (omega arith) })
      | inr h ↦ rw h (more (on_from on (suc w) n) (on_from_is on (suc w) n) h)
    ]
  where
    here : (t : ℕ) → w ≤ t → on w ≡ false → (suc w ≤ t → on t ≡ false) → on t ≡ false
    here t l h k = elim (cases_eq w t) [ inl e ↦ ap on (sym e) ∙ h | inr e ↦ k (omega arith) ]

    more : (o : Option ℕ) → Among on (suc w) n o → on w ≡ false → Among on w (suc n) o
    more None a h = λ t l m. here t l h (λ k. a t k (omega arith))
    more (Some x) a h = (omega (arith, a.0), record { comes = a.1.comes; from = omega (arith, a.1.from); first = λ t p q. here t p h (λ k. a.1.first t k q) })

-- one turn of a loop over the week
pub on_from_turn : (on : ℕ → Bool) (w : ℕ) → w < 7 → on_from on w (7 - w) ≡ pick (on w) (Some w) (on_from on (w + 1) (7 - (w + 1)))
unfolding on_from
on_from_turn on w l = let e : 7 - w ≡ suc (7 - suc w) = omega arith in rw (e, add-one)

pub on_from_end : (on : ℕ → Bool) (w : ℕ) → 7 ≤ w → on_from on w (7 - w) ≡ None
unfolding on_from
on_from_end on w l = let e : 7 - w ≡ 0 = omega arith in rw e

-- as `find` gives it, by a test of the same days
pub found_from : (on test : ℕ → Bool) → ((k : ℕ) → on k ≡ test k) → (w n : ℕ) → find test (range_with_len w n) ≡ on_from on w n
unfolding on_from
found_from on test h w zero = refl
found_from on test h w (suc n) =
    let e : w + 1 ≡ suc w = omega arith in
    let i = rw e at (found_from on test h (w + 1) n) in
    elim (cases_Bool (test w)) [ inl t ↦ rw (h w, t) | inr t ↦ rw (h w, t, e, i) ]

module _ (on : ℕ → Bool) (s f a : ℕ) (pos : 0 < s) (begun : f ≤ a) where
  abbrev due_on : ℕ → Bool
  due_on d = on (weekday d) && eqb ((week d - week f) % s) 0

  abbrev late : ℕ
  late = weeks_past s f a

  late_small : late < s
  late_small = mod-lt (week a - week f) pos

  day_of_week : (k w : ℕ) → w < 7 → 5 ≤ 7 * k + w → (weekday (7 * k + w - 5) ≡ w) × (week (7 * k + w - 5) ≡ k)
  day_of_week k w l m = (omega arith, omega arith)

  off : (t : ℕ) → on (weekday t) ≡ false → due_on t ≡ false
  off t h = and_left (on (weekday t)) (eqb ((week t - week f) % s) 0) h

  -- in this week
  now_is : (w : ℕ) → w < 7 → First on (weekday a) w → late ≡ 0 → First due_on a (7 * week a + w - 5)
  now_is w small h e =
      let l : weekday a ≤ w = h.from in
      let x = day_of_week (week a) w small (omega arith) in
      record {
        comes = rw (x.0, x.1, h.comes, e);
        from = omega arith;
        first = λ t p q. off t (h.first (weekday t) (omega arith) (omega arith));
      }

  -- not this week: in the rest of it none is on, or it is none of its weeks
  abbrev NotNow : Type 0
  NotNow = (0 < late) ⊎ ((t : ℕ) → weekday a ≤ t → t < 7 → on t ≡ false)

  -- before the next of its weeks
  between : NotNow → (t : ℕ) → a ≤ t → week t < week a + (s - late) → due_on t ≡ false
  between n t l k =
      elim (cases_lt (week a) (week t)) [
        | inl m ↦ (
            let v : week t - week f ≡ (week a - week f) + (week t - week a) = omega arith in
            let u = sum_past (week a - week f) (week t - week a) s pos (omega (arith, late_small)) in
            and_right (on (weekday t)) (eqb ((week t - week f) % s) 0) (rw v (ne_eqb _ 0 (omega (arith, u)))))
        | inr m ↦ (
            let v : week t ≡ week a = omega arith in
            elim n [
              | inl z ↦ and_right (on (weekday t)) (eqb ((week t - week f) % s) 0) (rw v (ne_eqb late 0 (omega arith)))
              | inr z ↦ off t (z (weekday t) (omega arith) (omega arith))
            ])
      ]

  later_is : (w : ℕ) → w < 7 → First on 0 w → NotNow → First due_on a (7 * (week a + (s - late)) + w - 5)
  later_is w small h n =
      let g : 0 < s - late = omega (arith, late_small) in
      let x = day_of_week (week a + (s - late)) w small (omega arith) in
      let v : week a + (s - late) - week f ≡ (week a - week f) + (s - late) = omega arith in
      let u = sum_whole (week a - week f) (s - late) s pos (omega (arith, late_small)) in
      record {
        comes = rw (x.0, x.1, h.comes, v, u);
        from = omega arith;
        first = λ t p q.
            elim (cases_lt (week t) (week a + (s - late))) [
              | inl m ↦ between n t p m
              | inr m ↦ off t (h.first (weekday t) (omega arith) (omega arith))
            ];
      }

  afterwards : NotNow → (o : Option ℕ) → Among on 0 7 o → Next due_on a (in_week (week a + (s - late)) o)
  afterwards n None h = λ t l. off t (h (weekday t) (omega arith) (omega arith))
  afterwards n (Some w) h = later_is w (omega (arith, h.0)) h.1 n

  this_week : late ≡ 0 → (o : Option ℕ) → Among on (weekday a) (7 - weekday a) o →
      Next due_on a (or_else (in_week (week a) o) (in_week (week a + (s - late)) (on_from on 0 7)))
  this_week e None h = afterwards (inr (λ t l m. h t l (omega arith))) (on_from on 0 7) (on_from_is on 0 7)
  this_week e (Some w) h = now_is w (omega (arith, h.0)) h.1 e

  weekly_is : Next due_on a (next_weekly on s f a)
  unfolding next_weekly
  weekly_is =
      elim (cases_eq late 0) [
        | inl e ↦ rw (eq-eqb late 0 e) (this_week e (on_from on (weekday a) (7 - weekday a)) (on_from_is on (weekday a) (7 - weekday a)))
        | inr e ↦ rw (ne_eqb late 0 e) (afterwards (inl (omega arith)) (on_from on 0 7) (on_from_is on 0 7))
      ]

-- by its kind alone
due_is : (r : Repeat) (f a : ℕ) → r.kind ≤ 2 → 0 < r.step → f ≤ a → Next (due r f) a (next_due r f a)
due_is r f a k s l =
    elim (cases_eq r.kind 0) [
      | inl e ↦ (
          elim (cases_eq a f) [
            | inl q ↦ rw (e, eq-eqb a f q) (record { comes = eq-eqb a f q; from = omega arith; first = λ t u v. absurd (omega arith) })
            | inr q ↦ rw (e, ne_eqb a f q) (λ t u. ne_eqb t f (omega arith))
          ])
      | inr e ↦ elim (cases_eq r.kind 1) [
        | inl q ↦ rw q (daily_is r.step f a s l)
        | inr q ↦ (let z : r.kind ≡ 2 = omega arith in rw z (weekly_is (has r.weekdays) r.step f a s l))
      ]
    ]

-- from what is due to what falls
module _ (r : Repeat) (f d : ℕ) (kind : r.kind ≤ 2) where
  falls_not : (t : ℕ) → d ≤ t → (max d f ≤ t → due r f t ≡ false) → falls r f t ≡ false
  falls_not t l h =
      elim (cases_lt t f) [
        | inl k ↦ falls_past r f t (inl k)
        | inr k ↦ elim (cases_lt r.last t) [
          | inl m ↦ falls_past r f t (inr m)
          | inr m ↦ falls_due r f t kind k m ∙ h (omega arith)
        ]
      ]

  from_due : (o : Option ℕ) → Next (due r f) (max d f) o → Next (falls r f) d (up_to r.last o)
  from_due None h = λ t l. falls_not t l (h t)
  from_due (Some x) h =
      let b : max d f ≤ x = h.from in
      elim (cases_lt r.last x) [
        | inl l ↦ rw (lt-leb x r.last l) (λ t m.
            elim (cases_lt t x) [
              | inl k ↦ falls_not t m (λ n. h.first t n k)
              | inr k ↦ falls_past r f t (inr (omega arith))
            ])
        | inr l ↦ rw (le-leb x r.last l) (record {
          comes = falls_due r f x kind (omega arith) l ∙ h.comes;
          from = omega arith;
          first = λ t m n. falls_not t m (λ k. h.first t k n);
        })
      ]

pub next_is : (r : Repeat) (f d : ℕ) → fits r f ≡ true → Next (falls r f) d (next_day r f d)
unfolding next_day
next_is r f d h =
    let p = fits_parts r f h in
    from_due r f d p.0 (next_due r f (max d f)) (due_is r f (max d f) p.0 p.1 (omega arith))

pub rules_right : RulesRight
unfolding RulesRight
rules_right r f h = let p = fits_parts r f h in ((λ d. next_is r f d h), λ n. often_is r f p.0 p.1 n)

pub known_fits : (r : Repeat) (f d : ℕ) → known r f d ≡ true → fits r f ≡ true
known_fits r f d h = grind (arith, nat_tests)

-- the answer of the code
told : (k : Bool) (p : ℕ → Bool) (a : ℕ) (o : Option ℕ) → (k ≡ true → Next p a o) → Tells k p a (answer k o)
told false p a o h = refl
told true p a o h = (refl, h refl)

pub next_told : (r : Repeat) (f d : ℕ) (a : Result (Option ℕ) NotKnown) → a ≡ answer (known r f d) (next_day r f d) → Tells (known r f d) (falls r f) d a
next_told r f d a e =
    rw e (told (known r f d) (falls r f) d (next_day r f d) (λ h. next_is r f d (known_fits r f d h)))

pub count_told : (r : Repeat) (f d n : ℕ) → known r f d ≡ true → often r f n ≡ so_often r f n
count_told r f d n h = let p = fits_parts r f (known_fits r f d h) in often_is r f p.0 p.1 n

pub next_some : (r : Repeat) (f d x : ℕ) → fits r f ≡ true → Some x ≡ next_day r f d → First (falls r f) d x
next_some r f d x h e = rw (sym e) at (next_is r f d h)

pub next_none : (r : Repeat) (f d : ℕ) → fits r f ≡ true → None ≡ next_day r f d → NoneFrom (falls r f) d
next_none r f d h e = rw (sym e) at (next_is r f d h)

-- past its last day there is none
past : (p : ℕ → Bool) (a l : ℕ) (o : Option ℕ) → Next p a o → l < a → None ≡ up_to l o
past p a l None h m = refl
past p a l (Some x) h m = let b : a ≤ x = h.from in rw (lt-leb x l (omega arith))

pub next_past : (rule : Rule) (d : ℕ) → rule.repeat.last < max d rule.first → None ≡ next_day (repeat_of rule.repeat) rule.first d
unfolding next_day
next_past rule d m =
    let r = repeat_of rule.repeat in
    let f : ℕ = rule.first in
    past (due r f) (max d f) r.last (next_due r f (max d f)) (due_is r f (max d f) rule.kind rule.low (omega arith)) m

-- whether it falls on a day, by the first one from it on
pub falls_now : (r : Repeat) (f d : ℕ) → fits r f ≡ true → (o : Option ℕ) → o ≡ next_day r f d → option_eq nat_eq o (Some d) ≡ falls r f d
falls_now r f d h None e = sym (next_none r f d h e d (omega arith))
falls_now r f d h (Some x) e =
    let n = next_some r f d x h e in
    let l : d ≤ x = n.from in
    elim (cases_eq x d) [
      | inl q ↦ rw (eq-eqb x d q) (sym (rw q at n.comes))
      | inr q ↦ rw (ne_eqb x d q) (sym (n.first d (omega arith) (omega arith)))
    ]

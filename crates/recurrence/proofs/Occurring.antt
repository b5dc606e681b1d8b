-- The next occurrence, and the occurrences one after the other.
use Rattle.std.proofs.Common.{◌≡◌, ℕ, zero, suc, ◌+◌, ◌-◌, ◌<◌, ◌≤◌, Bool, true, false, not, ◌&&◌, List, [], ◌∷◌, ◌++◌, length, Some, None, Option, sym, refl, ap, ◌∙◌, inl, inr, add-one, arith}
use Rattle.std.proofs.lemmas.Bool.Decides.{nat_tests}
use Rattle.std.proofs.lemmas.Bool.{and_parts, cases_Bool, cases_lt, lt-ltb, le-ltb, false≢true}
use Rattle.pages.specs.Lists.{those}
use Rattle.dates.specs.Limits.{a_day}
use Rattle.recurrence.specs.Event.{Repeat, Event, a_repeat, falls, has, occurs, so_often}
use Rattle.recurrence.specs.Span.{days_from}
use Rattle.recurrence.specs.ByRule.{day_limit, fits, known, next_day}
use Rattle.recurrence.specs.First.{First, NoneFrom, Next}
use Rattle.recurrence.specs.Occurrence.{counts, unless_left_out, passing, next_occurrence, then_on, one_by_one, OccurrencesRight, AllKnown}
use Rattle.recurrence.proofs.Nexts.{next_is, next_none, next_some}
use Rattle.recurrence.proofs.LeftOut.{left_from, left_fewer, left_all}

often_grows : (r : Repeat) (f n m : ℕ) → so_often r f n ≤ so_often r f (n + m)
unfolding so_often
often_grows r f n zero = let e : n + 0 ≡ n = omega arith in rw e (omega arith)
often_grows r f n (suc m) =
    let e : n + suc m ≡ suc (n + m) = omega arith in
    rw e (omega (arith, often_grows r f n m))

pub occurs_is : (e : Event) (d : ℕ) → occurs e d ≡ ((falls e.repeat e.first d && counts e d) && not (has e.left_out d))
unfolding occurs
occurs_is e d = refl

pub not_falling : (e : Event) (t : ℕ) → falls e.repeat e.first t ≡ false → occurs e t ≡ false
not_falling e t h = occurs_is e t ∙ rw h

pub not_kept : (e : Event) (t : ℕ) → has e.left_out t ≡ true → occurs e t ≡ false
not_kept e t h = occurs_is e t ∙ (let g = falls e.repeat e.first t in grind (arith, nat_tests))

-- by the first day from it on, on which it falls
pub occurs_not_yet : (e : Event) (d x : ℕ) → First (falls e.repeat e.first) d x → d < x → occurs e d ≡ false
occurs_not_yet e d x h l = not_falling e d (h.first d (omega arith) l)

pub occurs_now : (e : Event) (d x : ℕ) → First (falls e.repeat e.first) d x → x ≤ d → occurs e d ≡ (counts e d && not (has e.left_out d))
occurs_now e d x h l =
    let m : d ≤ x = h.from in
    let q : x ≡ d = omega arith in
    let f : falls e.repeat e.first d ≡ true = rw (sym q) h.comes in
    occurs_is e d ∙ rw f

-- past its times for good
pub not_counted : (e : Event) (x t : ℕ) → x ≤ t → counts e x ≡ false → occurs e t ≡ false
not_counted e x t l h =
    let m : t - e.first ≡ (x - e.first) + ((t - e.first) - (x - e.first)) = omega arith in
    let k = often_grows e.repeat e.first (x - e.first) ((t - e.first) - (x - e.first)) in
    let j : so_often e.repeat e.first (x - e.first) ≤ so_often e.repeat e.first (t - e.first) = rw m k in
    let c : counts e t ≡ false = grind (arith, nat_tests) in
    occurs_is e t ∙ grind (arith, nat_tests)

-- the first of two answers that are both right is the other
pub once : (p : ℕ → Bool) (a : ℕ) (o q : Option ℕ) → Next p a o → Next p a q → o ≡ q
once p a None None h k = refl
once p a None (Some y) h k = absurd (false≢true (sym (h y k.from) ∙ k.comes))
once p a (Some x) None h k = absurd (false≢true (sym (k x h.from) ∙ h.comes))
once p a (Some x) (Some y) h k =
    elim (cases_lt x y) [
      | inl l ↦ absurd (false≢true (sym (k.first x h.from l) ∙ h.comes))
      | inr l ↦ elim (cases_lt y x) [
        | inl m ↦ absurd (false≢true (sym (h.first y k.from m) ∙ k.comes))
        | inr m ↦ ap Some (omega arith)
      ]
    ]

module _ (e : Event) where
  -- up to a day on which it falls it doesn't occur, and then from there on
  abbrev pub Passed : ℕ → ℕ → Type 0
  Passed a d = (t : ℕ) → a ≤ t → t < d → occurs e t ≡ false

  pub passed_none : (a d : ℕ) → Passed a d → NoneFrom (falls e.repeat e.first) d → NoneFrom (occurs e) a
  passed_none a d h k t l = elim (cases_lt t d) [ inl m ↦ h t l m | inr m ↦ not_falling e t (k t m) ]

  pub passed_to : (a d x : ℕ) → Passed a d → First (falls e.repeat e.first) d x → Passed a x
  passed_to a d x h k t l n = elim (cases_lt t d) [ inl m ↦ h t l m | inr m ↦ not_falling e t (k.first t m n) ]

  pub passed_over : (a x : ℕ) → Passed a x → has e.left_out x ≡ true → Passed a (x + 1)
  passed_over a x h k t l n = elim (cases_lt t x) [ inl m ↦ h t l m | inr m ↦ (let q : t ≡ x = omega arith in rw q (not_kept e x k)) ]

  pub passed_out : (a x : ℕ) → Passed a x → counts e x ≡ false → NoneFrom (occurs e) a
  passed_out a x h k t l = elim (cases_lt t x) [ inl m ↦ h t l m | inr m ↦ not_counted e x t m k ]

  pub passed_first : (a x : ℕ) → a ≤ x → Passed a x → falls e.repeat e.first x ≡ true → counts e x ≡ true → has e.left_out x ≡ false → First (occurs e) a x
  passed_first a x l h f c k = record { comes = occurs_is e x ∙ rw (f, c, k); from = l; first = h }

  -- what is found after days on which it doesn't occur
  next_later : (a d : ℕ) → a ≤ d → Passed a d → (o : Option ℕ) → Next (occurs e) d o → Next (occurs e) a o
  next_later a d l h None k = λ t m. elim (cases_lt t d) [ inl n ↦ h t m n | inr n ↦ k t n ]
  next_later a d l h (Some x) k =
      record {
        comes = k.comes;
        from = omega (arith, k.from);
        first = λ t m n. elim (cases_lt t d) [ inl i ↦ h t m i | inr i ↦ k.first t i n ];
      }

  -- go is asked only after a day that is left out
  passing_one : (d : ℕ) (go : ℕ → Option ℕ) (o : Option ℕ) → Next (falls e.repeat e.first) d o →
      ((x : ℕ) → d ≤ x → has e.left_out x ≡ true → Next (occurs e) (suc x) (go (suc x))) →
      Next (occurs e) d (unless_left_out e go o)
  unfolding unless_left_out
  passing_one d go None h g = λ t l. not_falling e t (h t l)
  passing_one d go (Some x) h g =
      let l : d ≤ x = h.from in
      let p : Passed d x = passed_to d d x (λ t m n. absurd (omega arith)) h in
      elim (cases_Bool (counts e x)) [
        | inr c ↦ rw c (passed_out d x p c)
        | inl c ↦ elim (cases_Bool (has e.left_out x)) [
          | inr k ↦ rw (c, k) (passed_first d x l p h.comes c k)
          | inl k ↦ (
              let q : Passed d (suc x) = λ t m n. passed_over d x p k t m (omega arith) in
              rw (c, k) (next_later d (suc x) (omega arith) q (go (suc x)) (g x l k)))
        ]
      ]

  module _ (fit : fits e.repeat e.first ≡ true) where
    passing_is : (n d : ℕ) → left_from e.left_out d ≤ n → Next (occurs e) d (passing e n d)
    unfolding passing
    passing_is zero d l =
        passing_one d (λ _. None) (next_day e.repeat e.first d) (next_is e.repeat e.first d fit)
        (λ x m k. absurd (omega (arith, left_fewer e.left_out d x m k)))
    passing_is (suc n) d l =
        passing_one d (passing e n) (next_day e.repeat e.first d) (next_is e.repeat e.first d fit)
        (λ x m k. passing_is n (suc x) (let i = left_fewer e.left_out d x m k in let j = rw add-one at i in omega (arith, j)))

    pub next_occurrence_is : (d : ℕ) → Next (occurs e) d (next_occurrence e d)
    next_occurrence_is d = passing_is (length e.left_out) d (left_all e.left_out d)

-- days on which nothing holds
those_none : (p : ℕ → Bool) (a n : ℕ) → ((t : ℕ) → a ≤ t → t < a + n → p t ≡ false) → those p (days_from a n) ≡ []
unfolding days_from
those_none p a zero h = refl
those_none p a (suc n) h = rw (h a (omega arith) (omega arith)) (those_none p (suc a) n (λ t l m. h t (omega arith) (omega arith)))

days_split : (p : ℕ → Bool) (a n m : ℕ) → those p (days_from a (n + m)) ≡ those p (days_from a n) ++ those p (days_from (a + n) m)
unfolding days_from
days_split p a zero m =
    let e : 0 + m ≡ m = omega arith in
    let g : a + 0 ≡ a = omega arith in
    rw (e, g)
days_split p a (suc n) m =
    let e : suc n + m ≡ suc (n + m) = omega arith in
    let g : a + suc n ≡ suc a + n = omega arith in
    let i = days_split p (suc a) n m in
    rw (e, g) (elim (cases_Bool (p a)) [ inl h ↦ rw (h, i) | inr h ↦ rw (h, i) ])

-- up to the first day on which it holds
pub those_next : (p : ℕ → Bool) (a b x : ℕ) → First p a x → x < b → those p (days_from a (b - a)) ≡ x ∷ those p (days_from (suc x) (b - suc x))
unfolding days_from
those_next p a b x h m =
    let l : a ≤ x = h.from in
    let e : b - a ≡ (x - a) + suc (b - suc x) = omega arith in
    let g : a + (x - a) ≡ x = omega arith in
    rw (e, days_split p a (x - a) (suc (b - suc x)), those_none p a (x - a) (λ t u v. h.first t u (omega arith)), g, h.comes)

then_on_is : (p : ℕ → Bool) (a b : ℕ) (o : Option ℕ) → Next p a o → (go : ℕ → List ℕ) →
    ((x : ℕ) → a ≤ x → go (suc x) ≡ those p (days_from (suc x) (b - suc x))) → then_on go b o ≡ those p (days_from a (b - a))
unfolding then_on
then_on_is p a b None h go g = sym (those_none p a (b - a) (λ t l m. h t l))
then_on_is p a b (Some x) h go g =
    elim (cases_lt x b) [
      | inl l ↦ rw (lt-ltb x b l, g x h.from) (sym (those_next p a b x h l))
      | inr l ↦ rw (le-ltb x b l) (sym (those_none p a (b - a) (λ t u v. h.first t u (omega arith))))
    ]

one_by_one_is : (p : ℕ → Bool) (next : ℕ → Option ℕ) → ((a : ℕ) → Next p a (next a)) → (n a b : ℕ) → b ≤ a + n →
    one_by_one next n a b ≡ those p (days_from a (b - a))
unfolding one_by_one
one_by_one_is p next h zero a b l = sym (those_none p a (b - a) (λ t u v. absurd (omega arith)))
one_by_one_is p next h (suc n) a b l =
    then_on_is p a b (next a) (h a) (λ x. one_by_one next n x b) (λ x m. one_by_one_is p next h n (suc x) b (omega arith))

pub occurrences_right : OccurrencesRight
unfolding OccurrencesRight
occurrences_right e h =
    let next = next_occurrence_is e h in (
      next,
      λ d n. (
          let q : d + n - d ≡ n = omega arith in
          one_by_one_is (occurs e) (next_occurrence e) next n d (d + n) (omega arith) ∙ ap (λ k. those (occurs e) (days_from d k)) q),
    )

-- an event's repeat and first day are within the bounds
within : (r : Repeat) (f d : ℕ) → a_repeat r ≡ true → a_day f ≡ true → r.kind ≤ 2 → d ≤ day_limit → known r f d ≡ true
within r f d a b k l = grind (arith, nat_tests)

pub all_known : AllKnown
unfolding AllKnown
all_known e d h k l =
    let p = and_parts _ _ h in
    within e.repeat e.first d (and_parts _ _ p.1).0 (and_parts _ _ (and_parts _ _ (and_parts _ _ p.0).1).0).0 k l

-- it is known on a day on which it falls, far below every limit, and on the day after
known_on : (r : Repeat) (f x : ℕ) → fits r f ≡ true → falls r f x ≡ true → (known r f x ≡ true) × (known r f (x + 1) ≡ true) × (x < day_limit)
unfolding falls
known_on r f x h k = (grind (arith, nat_tests), grind (arith, nat_tests), grind (arith, nat_tests))

-- a turn of the search: it has passed over the days from a to d, and next it falls on x, or never
module _ (e : Event) (a d : ℕ) (fit : fits e.repeat e.first ≡ true) where
  found : (o : Option ℕ) → Next (occurs e) a o → o ≡ next_occurrence e a
  found o h = once (occurs e) a o (next_occurrence e a) h (next_occurrence_is e fit a)

  pub turn_none : Passed e a d → None ≡ next_day e.repeat e.first d → None ≡ next_occurrence e a
  turn_none h n = found None (passed_none e a d h (next_none e.repeat e.first d fit n))

  module _ (x : ℕ) (n : Some x ≡ next_day e.repeat e.first d) where
    next_x : First (falls e.repeat e.first) d x
    next_x = next_some e.repeat e.first d x fit n

    pub turn_known : (known e.repeat e.first x ≡ true) × (known e.repeat e.first (x + 1) ≡ true) × (x < day_limit)
    turn_known = known_on e.repeat e.first x fit next_x.comes

    pub turn_small : x < day_limit
    turn_small = turn_known.2

    pub turn_fewer : has e.left_out x ≡ true → left_from e.left_out (x + 1) < left_from e.left_out d
    turn_fewer t = left_fewer e.left_out d x next_x.from t

    pub turn_over : a ≤ d → Passed e a d → has e.left_out x ≡ true → (known e.repeat e.first (x + 1) ≡ true) × (a ≤ x + 1) × Passed e a (x + 1)
    turn_over l h t = (turn_known.1, omega (arith, next_x.from), passed_over e a x (passed_to e a d x h next_x) t)

    pub turn_out : Passed e a d → counts e x ≡ false → None ≡ next_occurrence e a
    turn_out h c = found None (passed_out e a x (passed_to e a d x h next_x) c)

    pub turn_found : a ≤ d → Passed e a d → counts e x ≡ true → has e.left_out x ≡ false → Some x ≡ next_occurrence e a
    turn_found l h c t = found (Some x) (passed_first e a x (omega (arith, next_x.from)) (passed_to e a d x h next_x) next_x.comes c t)

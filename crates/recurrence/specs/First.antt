-- The first day from one on at which a test holds, and what an answer tells of it. Assumes nothing: these are definitions.
use Rattle.std.specs.Prelude.{◌≡◌, ℕ, ◌-◌, ◌<◌, ◌≤◌, Bool, true, false, Some, None, Ok, Err, Option, Result, MatchOption, ◌==◌, nat_le, nat_lt}
use Rattle.pages.specs.Lists.{or, pick}
use Rattle.recurrence.specs.Event.{Repeat, falls, so_often}
use Rattle.recurrence.specs.ByRule.{fits, next_day, often}
use Rattle.recurrence.specs.declared.rule.NotKnown.{NotKnown}

pub record First (p : ℕ → Bool) (a x : ℕ) : Type 0 where
  pub comes : p x ≡ true
  pub from : a ≤ x
  pub first : (t : ℕ) → a ≤ t → t < x → p t ≡ false

abbrev pub NoneFrom : (ℕ → Bool) → ℕ → Type 0
NoneFrom p a = (t : ℕ) → a ≤ t → p t ≡ false

abbrev pub Next : (ℕ → Bool) → ℕ → Option ℕ → Type 0
Next p a o = MatchOption o (NoneFrom p a) (λ x. First p a x)

-- how many days it has fallen on, up to a day
abbrev pub fallen : Repeat → ℕ → ℕ → ℕ
fallen r f d = pick (nat_lt d f) 0 (so_often r f (d - f))

-- a day on which it falls is one of its number of times
abbrev pub in_times : Repeat → ℕ → ℕ → Bool
in_times r f d = or (r.times == 0) (nat_le (so_often r f (d - f)) r.times)

-- THE RULES ARE RIGHT: they tell what is found by looking at every day
unfoldable pub RulesRight : Type 0
RulesRight = (r : Repeat) (f : ℕ) → fits r f ≡ true → ((d : ℕ) → Next (falls r f) d (next_day r f d)) × ((n : ℕ) → often r f n ≡ so_often r f n)

-- there is one value of it
abbrev pub not_known : NotKnown
not_known = record {}

-- an answer by rule, where there is one
abbrev pub answer : Bool → Option ℕ → Result (Option ℕ) NotKnown
answer false o = Err not_known
answer true o = Ok o

-- an answer as one number, the largest of 64 bits where there is no day
abbrev pub number : Result (Option ℕ) NotKnown → ℕ
number (Err e) = 18446744073709551615
number (Ok None) = 18446744073709551615
number (Ok (Some x)) = x

-- what it tells of the days from one on
abbrev pub Tells : Bool → (ℕ → Bool) → ℕ → Result (Option ℕ) NotKnown → Type 0
Tells k p a (Err e) = k ≡ false
Tells k p a (Ok o) = (k ≡ true) × Next p a o

-- How a step of a whole house is told to the world outside. Assumes nothing: these are definitions.
use Rattle.std.specs.Prelude.{◌≡◌, ℕ, Bool, true, false, ◌&&◌, List, length, take, Result, Err, ◌==◌, nat_le}
use Rattle.pages.specs.Lists.{pick}
use Rattle.pages.specs.Bytes.{from_eight}
use Rattle.pages.specs.Run.{Act as MeantAct, Engine, Event, next, on, page, said}
use Rattle.engine.specs.Acts.{out_of, told, told_number, told_of}
use Rattle.engine.specs.declared.act.Act.{Act}
use Rattle.engine.specs.declared.act.Refusal.{Refusal}
use Rattle.engine.specs.declared.act.Refusal.TheVariants.{Misused}

-- what the world tells is a kind and some bytes: 0 power, with a number of eight bytes, the highest first; 1 a command; 2 a page; 3 go on
unfoldable pub event_of : ℕ → List ℕ → Event
event_of k bs = pick (k == 0) (on (from_eight 0 (take 8 bs))) (pick (k == 1) (said bs) (pick (k == 2) (page bs) next))

-- the act is told, and its bytes stand in the lent row
unfoldable pub ActTold : MeantAct → Result Act Refusal → (out out₁ : List ℕ) → Type 0
ActTold a r out out₁ = (told r ≡ told_of a) × (out₁ ≡ out_of a out)

-- one step: for memories of the house's own length and a lent row of 131,072 bytes; others are refused as misused, and nothing is changed
unfoldable pub TellSays : Engine → (memory : List ℕ) (ev : Event) (out : List ℕ) → Bool → Result Act Refusal → (memory₁ out₁ : List ℕ) → Type 0
TellSays e memory ev out true r memory₁ out₁ = (memory₁ ≡ (e.step memory ev).memory) × ActTold (e.step memory ev).act r out out₁
TellSays e memory ev out false r memory₁ out₁ = (r ≡ Err Misused) × (memory₁ ≡ memory) × (out₁ ≡ out)

unfoldable pub tell_fits : Engine → (memory out : List ℕ) → Bool
tell_fits e memory out = length memory == length e.start && nat_le 131072 (length out)

-- the same by a kind and some bytes, where there is such a kind
unfoldable pub StepSays : Engine → (memory : List ℕ) (kind : ℕ) (bytes out : List ℕ) → Bool → Result Act Refusal → (memory₁ out₁ : List ℕ) → Type 0
StepSays e memory kind bytes out fits r memory₁ out₁ = TellSays e memory (event_of kind bytes) out fits r memory₁ out₁

unfoldable pub step_fits : Engine → (memory : List ℕ) (kind : ℕ) (out : List ℕ) → Bool
step_fits e memory kind out = length memory == length e.start && (nat_le kind 3 && nat_le 131072 (length out))

-- the same with what is told as one number
unfoldable pub StepNumbered : Engine → (memory : List ℕ) (kind : ℕ) (bytes out : List ℕ) → ℕ → (memory₁ out₁ : List ℕ) → Type 0
StepNumbered e memory kind bytes out r memory₁ out₁ =
    (t : Result Act Refusal) × StepSays e memory kind bytes out (step_fits e memory kind out) t memory₁ out₁ × (r ≡ told_number (told t))

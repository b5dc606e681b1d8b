-- Events, acts and refusals of the code, and what they stand for. Assumes nothing: these are definitions.
use Rattle.std.specs.Prelude.{◌≡◌, ℕ, Bool, true, false, ◌+◌, ◌*◌, ◌%◌, List, length, Result, Ok, Err}
use Rattle.pages.specs.Bytes.{over}
use Rattle.pages.specs.Deeds.{side_number}
use Rattle.pages.specs.Run.{Step, Event as MeantEvent, on, said, page, next, Act as MeantAct, read, write, shows, done, refused}
use Rattle.engine.specs.declared.act.Event.{Event}
use Rattle.engine.specs.declared.act.Event.TheVariants.{On, Said, Page, Next}
use Rattle.engine.specs.declared.act.Act.{Act}
use Rattle.engine.specs.declared.act.Act.TheVariants.{Read, Write, Shows, Done}
use Rattle.engine.specs.declared.act.Refusal.{Refusal}
use Rattle.engine.specs.declared.act.Refusal.TheVariants.{Misused, NoCommand, NotKnown, NoSuch, NameTaken, TooMany, NoRoom, Fault}

abbrev pub event_in : Event → MeantEvent
event_in (On n) = on n
event_in (Said bs) = said bs.now
event_in (Page bs) = page bs.now
event_in Next = next

abbrev pub refusal_number : Refusal → ℕ
refusal_number Misused = 0
refusal_number NoCommand = 1
refusal_number NotKnown = 2
refusal_number NoSuch = 3
refusal_number NameTaken = 4
refusal_number TooMany = 7
refusal_number NoRoom = 8
refusal_number Fault = 999

-- an act by numbers, without its bytes, which stand in the lent row
pub data Told : Type 0 where
  reads : ℕ → ℕ → Told  -- a side, 0 or 1, and a page
  writes : ℕ → ℕ → Told
  rows : ℕ → Told  -- a row of so many bytes
  through : Told
  no : ℕ → Told

-- what the code answers
abbrev pub told : Result Act Refusal → Told
told (Ok (Read d k)) = reads (side_number d) k
told (Ok (Write d k)) = writes (side_number d) k
told (Ok (Shows n)) = rows n
told (Ok Done) = through
told (Err f) = no (refusal_number f)

-- what is meant
abbrev pub told_of : MeantAct → Told
told_of (read s k) = reads s k
told_of (write s k p) = writes s k
told_of (shows s) = rows (length s)
told_of done = through
told_of (refused k) = no k

abbrev pub out_of : MeantAct → List ℕ → List ℕ
out_of (read s k) o = o
out_of (write s k p) o = over p o
out_of (shows s) o = over s o
out_of done o = o
out_of (refused k) o = o

-- what is told as one number, for callers that know no enums: eight times the number of the answer, and its kind. Places, lengths and
-- refusals stay far below 2^61; a larger number would lose its highest bits
abbrev pub told_number : Told → ℕ
told_number through = 0
told_number (reads s k) = 8 * ((2 * k + s) % 2305843009213693952) + 1
told_number (writes s k) = 8 * ((2 * k + s) % 2305843009213693952) + 2
told_number (rows n) = 8 * (n % 2305843009213693952) + 3
told_number (no n) = 8 * (n % 2305843009213693952) + 4

-- how a function of the code that takes one step leaves its answer, the memory and the lent row
pub record Outcome (s : Step) (a : Result Act Refusal) (memory₁ out out₁ : List ℕ) : Type 0 where
  pub memory_is : memory₁ ≡ s.memory
  pub act_is : told a ≡ told_of s.act
  pub out_is : out₁ ≡ out_of s.act out

-- an act that leaves the lent row as it is
abbrev pub quiet : MeantAct → Bool
quiet (read s k) = true
quiet (write s k p) = false
quiet (shows row) = false
quiet done = true
quiet (refused k) = true

-- how a function of the code that takes one quiet step leaves its answer and the memory
pub record Quiet (s : Step) (a : Result Act Refusal) (memory₁ : List ℕ) : Type 0 where
  pub memory_is : memory₁ ≡ s.memory
  pub act_is : told a ≡ told_of s.act
  pub still : quiet s.act ≡ true

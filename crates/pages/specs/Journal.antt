-- A commit, as a machine by value: told a header or that the last act is done, it hands on its next state and deed. Where it is told what it does
-- not expect, or a number is out of its range, there is no next state. Assumes nothing: these are definitions.
use Rattle.std.specs.Prelude.{ℕ, ◌+◌, Bool, cond, not, ◌&&◌, List, ◌∷◌, length, drop, Some, None, Option, ◌==◌, nat_lt, slice_index}
use Rattle.pages.specs.Lists.{bit}
use Rattle.pages.specs.Store.{area, slot}
use Rattle.pages.specs.Waking.{home_of}
use Rattle.pages.specs.declared.deed.Content.TheVariants.{Header, Batch}
use Rattle.pages.specs.declared.deed.Deed.{Deed}
use Rattle.pages.specs.declared.deed.Step.{Step}
use Rattle.pages.specs.declared.deed.Deed.TheVariants.{Read, Write, Ready}
use Rattle.pages.specs.declared.side.Side.{Side}
use Rattle.pages.specs.declared.side.Side.TheVariants.{First, Second}
use Rattle.pages.specs.declared.journal.Part.{Part}
use Rattle.pages.specs.declared.journal.Part.TheVariants.{Area, Slot, Head, Home}
use Rattle.pages.specs.declared.journal.Commit.{Commit}

abbrev pub going : Part → ℕ → Deed → Step Commit
going p i d = record { state = record { part = p; at = i }; deed = d }

abbrev pub begun : Step Commit
begun = going Area 0 (Read First 0)

-- a page of the batch into its slot on a side, in the area that the header's numbers name; the header; and a page into its home
abbrev pub slotted : Side → List ℕ → ℕ → Step Commit
slotted d ws i = going (Slot d) i (Write d (slot (slice_index ws 1 == 1) i) (Batch i))

abbrev pub headed : Side → Step Commit
headed d = going (Head d) 0 (Write d 0 Header)

abbrev pub homing : Option ℕ → Side → ℕ → Option (Step Commit)
homing None d i = None
homing (Some k) d i = Some (going (Home d) i (Write d k (Batch i)))

abbrev pub homed : Side → List ℕ → ℕ → Option (Step Commit)
homed d ws i = homing (home_of ws i) d i

-- the batch from one page on into its slots; then the header
abbrev pub slots_from : List ℕ → ℕ → Step Commit
slots_from ws i = cond (nat_lt i (slice_index ws 2) && nat_lt i 29) (slotted First ws i) (headed First)

-- the batch from one page on to its homes
abbrev pub homes_from : List ℕ → ℕ → Option (Step Commit)
homes_from ws i = cond (nat_lt i (slice_index ws 2)) (homed First ws i) (Some (going Area 0 Ready))

-- the first device's header came: the other area is to count
abbrev pub opened : List ℕ → List ℕ → List ℕ
opened ws bs = 1 ∷ bit (not (area bs)) ∷ drop 2 ws

abbrev pub opens : List ℕ → List ℕ → Step Commit
opens ws bs = slots_from (opened ws bs) 0

-- every number is in its range
abbrev pub steady : Commit → List ℕ → Bool
steady c ws = nat_lt c.at 29 && length ws == 32

-- the last act is done
abbrev pub next_at : Part → List ℕ → ℕ → Option (Step Commit)
next_at (Slot First) ws i = Some (slotted Second ws i)
next_at (Slot Second) ws i = Some (slots_from ws (i + 1))
next_at (Head First) ws i = Some (headed Second)
next_at (Head Second) ws i = homes_from ws 0
next_at (Home First) ws i = homed Second ws i
next_at (Home Second) ws i = homes_from ws (i + 1)
next_at Area ws i = None

abbrev pub next_of : Commit → List ℕ → Option (Step Commit)
next_of c ws = cond (steady c ws) (next_at c.part ws c.at) None

-- A step of the machine at a memory that is put together from its parts.
use Rattle.std.proofs.Common.{◌≡◌, ℕ, ◌≤◌, true, List, length, refl, ap, ◌∙◌}
use Rattle.std.proofs.lemmas.Bool.{and_from, eq-eqb, le-leb}
use Rattle.pages.specs.Device.{Page, a_page}
use Rattle.pages.specs.Deeds.{side_number}
use Rattle.pages.specs.Run.{Event, page, next, said, write}
use Rattle.pages.specs.Store.{header_page}
use Rattle.pages.specs.declared.deed.Content.TheVariants.{Blank, Told, Header, Batch}
use Rattle.pages.specs.declared.deed.Deed.{Deed}
use Rattle.pages.specs.declared.deed.Deed.TheVariants.{Read, Write, Ready as ReadyDeed}
use Rattle.pages.specs.declared.side.Side.TheVariants.{First, Second}
use Rattle.pages.specs.declared.journal.Part.{Part}
use Rattle.pages.specs.declared.journal.Part.TheVariants.{Area, Slot as PartSlot, Head, Home as PartHome}
use Rattle.pages.specs.declared.waking.Stage.{Stage}
use Rattle.pages.specs.declared.waking.Stage.TheVariants.{Header as HeaderStage, Mending, Wiping, Marking, Asking, Copying, Heading, Slot, Home}
use Rattle.records.specs.Reader.{found}
use Rattle.engine_next.specs.Memory.{stored}
use Rattle.engine.specs.Own.{a_house}
use Rattle.engine_next.specs.Own.{own, act_for, next_in, page_in, said_as, step_of}
use Rattle.engine_next.specs.Phases.{part_number, phase_of, stage_number}
use Rattle.engine_next.specs.declared.phase.Phase.TheVariants.{Committing, Waking}
use Rattle.engine_next.specs.declared.registers.Registers.{Registers}
use Rattle.engine_next.proofs.Areas.{Ready, batch_stored, head_stored, loaded_stored, long_stored}

pub house_of : (n : ℕ) → 256 ≤ n → n ≤ 1048576 → a_house n ≡ true
house_of n l h = and_from _ _ (le-leb 256 n l) (le-leb n 1048576 h)

-- A STEP of a memory of its length; between commands; and from stored registers
pub own_step : (m : List ℕ) (ev : Event) → length m ≡ 262144 → own.step m ev ≡ step_of m ev
unfolding own
own_step m ev l = rw (eq-eqb (length m) 262144 l)

pub own_said : (n : ℕ) (m t : List ℕ) → 256 ≤ n → n ≤ 1048576 → Ready n m → own.step m (said t) ≡ said_as (found t) t n m
own_said n m t lo hi u = own_step m (said t) u.long ∙ rw (u.has, le-leb 256 n lo, le-leb n 1048576 hi)

pub own_page : (r : Registers) (m x : List ℕ) → length m ≡ 262144 → a_house r.pages ≡ true → a_page x ≡ true → own.step (stored r m) (page x) ≡ page_in (phase_of r.phase) r x (stored r m)
own_page r m x l h v = own_step (stored r m) (page x) (long_stored r m l) ∙ rw (loaded_stored r m, h, v)

pub own_next : (r : Registers) (m : List ℕ) → length m ≡ 262144 → a_house r.pages ≡ true → own.step (stored r m) next ≡ next_in (phase_of r.phase) r (stored r m)
own_next r m l h = own_step (stored r m) next (long_stored r m l) ∙ rw (loaded_stored r m, h)

-- a deed does not see the registers
pub act_stored : (a : Deed) (x : Page) (r : Registers) (m : List ℕ) → act_for a x (stored r m) ≡ act_for a x m
act_stored (Read s k) x r m = refl
act_stored (Write s k Blank) x r m = refl
act_stored (Write s k Told) x r m = refl
act_stored (Write s k Header) x r m = ap (λ w. write (side_number s) k (header_page w)) (head_stored r m)
act_stored (Write s k (Batch i)) x r m = ap (write (side_number s) k) (batch_stored i r m)
act_stored ReadyDeed x r m = refl

-- a phase and its number
pub phase_stage : (s : Stage) → phase_of (stage_number s) ≡ Waking s
unfolding phase_of
phase_stage (HeaderStage First) = refl
phase_stage (HeaderStage Second) = refl
phase_stage Mending = refl
phase_stage Wiping = refl
phase_stage Marking = refl
phase_stage Asking = refl
phase_stage Copying = refl
phase_stage Heading = refl
phase_stage (Slot First) = refl
phase_stage (Slot Second) = refl
phase_stage (Home First) = refl
phase_stage (Home Second) = refl

pub phase_part : (p : Part) → phase_of (part_number p) ≡ Committing p
unfolding phase_of
phase_part Area = refl
phase_part (PartSlot First) = refl
phase_part (PartSlot Second) = refl
phase_part (Head First) = refl
phase_part (Head Second) = refl
phase_part (PartHome First) = refl
phase_part (PartHome Second) = refl

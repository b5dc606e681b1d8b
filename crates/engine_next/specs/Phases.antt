-- What the machine awaits, and its number. Assumes nothing: these are definitions.
use Rattle.std.specs.Prelude.{ℕ, ◌+◌, ◌*◌, cond, ◌==◌}
use Rattle.pages.specs.Deeds.{side_number}
use Rattle.pages.specs.declared.side.Side.TheVariants.{First, Second}
use Rattle.pages.specs.declared.waking.Stage.{Stage}
use Rattle.pages.specs.declared.waking.Stage.TheVariants.{Header, Mending, Wiping, Marking, Asking, Copying, Heading, Slot, Home}
use Rattle.pages.specs.declared.journal.Part.{Part}
use Rattle.pages.specs.declared.journal.Part.TheVariants.{Area, Slot as PartSlot, Head, Home as PartHome}
use Rattle.engine_next.specs.declared.phase.Join.TheVariants.{Root, Names, People}
use Rattle.engine_next.specs.declared.phase.Phase.{Phase}
use Rattle.engine_next.specs.declared.phase.Phase.TheVariants.{Idle, Waking, Committing, Joining, Telling}

abbrev pub stage_number : Stage → ℕ
stage_number (Header s) = 1 + side_number s
stage_number Mending = 3
stage_number Wiping = 4
stage_number Marking = 5
stage_number Asking = 6
stage_number Copying = 7
stage_number Heading = 8
stage_number (Slot s) = 9 + 2 * side_number s
stage_number (Home s) = 10 + 2 * side_number s

abbrev pub part_number : Part → ℕ
part_number Area = 13
part_number (PartSlot s) = 14 + side_number s
part_number (Head s) = 16 + side_number s
part_number (PartHome s) = 18 + side_number s

-- numbers that name nothing are taken for idle
abbrev pub phase_at : ℕ → Phase
phase_at n =
    cond (n == 1) (Waking (Header First)) (cond (n == 2) (Waking (Header Second)) (cond (n == 3) (Waking Mending) (cond (n == 4) (Waking Wiping) (cond (n == 5) (Waking Marking)
    (cond (n == 6) (Waking Asking) (cond (n == 7) (Waking Copying) (cond (n == 8) (Waking Heading) (cond (n == 9) (Waking (Slot First)) (cond (n == 10) (Waking (Home First))
    (cond (n == 11) (Waking (Slot Second)) (cond (n == 12) (Waking (Home Second)) (cond (n == 13) (Committing Area) (cond (n == 14) (Committing (PartSlot First))
    (cond (n == 15) (Committing (PartSlot Second)) (cond (n == 16) (Committing (Head First)) (cond (n == 17) (Committing (Head Second)) (cond (n == 18) (Committing (PartHome First))
    (cond (n == 19) (Committing (PartHome Second)) (cond (n == 20) (Joining Root) (cond (n == 21) (Joining Names) (cond (n == 22) (Joining People) (cond (n == 23) Telling Idle))))))))))))))))))))))

unfoldable pub phase_of : ℕ → Phase
phase_of n = phase_at n

abbrev pub phase_number : Phase → ℕ
phase_number Idle = 0
phase_number (Waking s) = stage_number s
phase_number (Committing p) = part_number p
phase_number (Joining Root) = 20
phase_number (Joining Names) = 21
phase_number (Joining People) = 22
phase_number Telling = 23

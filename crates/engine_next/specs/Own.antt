-- THE HOUSE ITSELF, as a machine of 262,144 numbers: what it does for whatever its memory holds and whatever it is told.
-- Assumes nothing: these are definitions.
use Rattle.std.specs.Prelude.{ℕ, ◌+◌, ◌-◌, ◌*◌, ◌/◌, ◌%◌, cond, ◌&&◌, List, [], ◌∷◌, length, Some, None, Option, ◌==◌, nat_le, nat_lt}
use Rattle.pages.specs.Lists.{pick}
use Rattle.pages.specs.Bytes.{eight, placed}
use Rattle.pages.specs.Device.{zeros, a_page}
use Rattle.pages.specs.Fields.{at}
use Rattle.pages.specs.Run.{Engine, Step, Event, on, said, page, next, Act, read, write, shows, done, refused}
use Rattle.pages.specs.Store.{header_page}
use Rattle.pages.specs.Deeds.{side_number}
use Rattle.pages.specs.Waking.{hears, heard_head, awaits_header, page_of, next_of}
use Rattle.pages.specs.Journal.{opens, opened, next_of as commit_next_of}
use Rattle.pages.specs.declared.deed.Content.{Content}
use Rattle.pages.specs.declared.deed.Content.TheVariants.{Blank, Told, Header, Batch}
use Rattle.pages.specs.declared.deed.Deed.{Deed}
use Rattle.pages.specs.declared.deed.Step.{Step as StoreStep}
use Rattle.pages.specs.declared.deed.Deed.TheVariants.{Read, Write, Ready}
use Rattle.pages.specs.declared.waking.Stage.{Stage}
use Rattle.pages.specs.declared.waking.Recovery.{Recovery}
use Rattle.pages.specs.declared.journal.Part.{Part}
use Rattle.pages.specs.declared.journal.Part.TheVariants.{Area, Slot, Head, Home}
use Rattle.pages.specs.declared.journal.Commit.{Commit}
use Rattle.records.specs.declared.command.Command.{Command}
use Rattle.records.specs.declared.command.Command.TheVariants.{Join as JoinCommand, SetZone, Put, Change, DropEvent, Skip, Listing, Busy, Free, Next, Shown}
use Rattle.records.specs.Reader.{found, bytes_in}
use Rattle.records.specs.Does.{names_on, new_person, new_root, put_block}
use Rattle.engine.specs.Own.{a_house}
use Rattle.engine_next.specs.Memory.{start_memory, loaded, stored, name_in, with_name, root_in, with_root, head_in, with_head, batch_in, with_batch}
use Rattle.engine_next.specs.Phases.{stage_number, part_number, phase_of}
use Rattle.engine_next.specs.declared.registers.Registers.{Registers}
use Rattle.engine_next.specs.declared.phase.Join.{Join}
use Rattle.engine_next.specs.declared.phase.Join.TheVariants.{Root, Names, People}
use Rattle.engine_next.specs.declared.phase.Phase.{Phase}
use Rattle.engine_next.specs.declared.phase.Phase.TheVariants.{Idle, Waking, Committing, Joining, Telling}

abbrev pub answers : Act → List ℕ → Step
answers a m = record { memory = m; act = a }

-- what is not expected changes nothing
abbrev pub fault : List ℕ → Step
fault m = answers (refused 999) m

-- DEEDS of the store, with the page that was told and the memory at hand
abbrev pub content_of : Content → List ℕ → List ℕ → List ℕ
content_of Blank bs m = zeros 512
content_of Told bs m = bs
content_of Header bs m = header_page (head_in m)
content_of (Batch i) bs m = batch_in i m

abbrev pub act_for : Deed → List ℕ → List ℕ → Act
act_for (Read s k) bs m = read (side_number s) k
act_for (Write s k c) bs m = write (side_number s) k (content_of c bs m)
act_for Ready bs m = done

-- POWER COMES UP
abbrev pub recovery_of : Stage → Registers → Recovery
recovery_of s r = record { stage = s; pages = r.pages; at = r.at; side = r.side }

abbrev pub with_recovery : Recovery → Registers → Registers
with_recovery v r = record { phase = stage_number v.stage; pages = r.pages; at = v.at; side = v.side; long = r.long; people = r.people; weight = r.weight }

abbrev pub woken : StoreStep Recovery → Registers → List ℕ → List ℕ → Step
woken v r bs m = answers (act_for v.deed bs m) (stored (with_recovery v.state r) m)

abbrev pub woken_if : Option (StoreStep Recovery) → Registers → List ℕ → List ℕ → Step
woken_if None r bs m = fault m
woken_if (Some v) r bs m = woken v r bs m

abbrev pub header_came : Stage → Registers → List ℕ → List ℕ → Step
header_came s r bs m = woken (hears s (head_in m) bs (recovery_of s r)) r bs (with_head (heard_head s (head_in m) bs) m)

abbrev pub waking_page : Stage → Registers → List ℕ → List ℕ → Step
waking_page s r bs m = cond (awaits_header s) (header_came s r bs m) (woken_if (page_of (recovery_of s r) (head_in m)) r bs m)

abbrev pub waking_next : Stage → Registers → List ℕ → Step
waking_next s r m = woken_if (next_of (recovery_of s r) (head_in m)) r [] m

-- in another phase, from one page or slot on
abbrev pub scanning : ℕ → ℕ → Registers → Registers
scanning p i r = record { phase = p; pages = r.pages; at = i; side = 0; long = r.long; people = r.people; weight = r.weight }

-- A COMMIT; when it is through, a number is shown
abbrev pub commit_of : Part → Registers → Commit
commit_of p r = record { part = p; at = r.at }

abbrev pub with_commit : Commit → Registers → Registers
with_commit c r = record { phase = part_number c.part; pages = r.pages; at = c.at; side = r.side; long = r.long; people = r.people; weight = r.weight }

abbrev pub told : Registers → List ℕ → Step
told r m = answers (shows (eight r.people)) (stored (scanning 23 0 r) m)

abbrev pub committed : Deed → Commit → Registers → List ℕ → Step
committed Ready c r m = told r m
committed (Read s k) c r m = answers (act_for (Read s k) [] m) (stored (with_commit c r) m)
committed (Write s k x) c r m = answers (act_for (Write s k x) [] m) (stored (with_commit c r) m)

abbrev pub committed_if : Option (StoreStep Commit) → Registers → List ℕ → Step
committed_if None r m = fault m
committed_if (Some t) r m = committed t.deed t.state r m

abbrev pub area_came : Registers → List ℕ → List ℕ → Step
area_came r bs m = committed (opens (head_in m) bs).deed (opens (head_in m) bs).state r (with_head (opened (head_in m) bs) m)

abbrev pub committing_page : Part → Registers → List ℕ → List ℕ → Step
committing_page Area r bs m = area_came r bs m
committing_page (Slot s) r bs m = fault m
committing_page (Head s) r bs m = fault m
committing_page (Home s) r bs m = fault m

abbrev pub committing_next : Part → Registers → List ℕ → Step
committing_next p r m = committed_if (commit_next_of (commit_of p r) (head_in m)) r m

-- JOIN: the root, all names, the page of the new person; then the commit
abbrev pub joining : ℕ → ℕ → Registers
joining n l = record { phase = 20; pages = n; at = 0; side = 0; long = l; people = 0; weight = 0 }

abbrev pub counted : ℕ → ℕ → Registers → Registers
counted a w r = record { phase = r.phase; pages = r.pages; at = r.at; side = r.side; long = r.long; people = a; weight = w }

abbrev pub join_said : List ℕ → ℕ → List ℕ → Step
join_said nm n m = cond (nat_le (length nm) 64) (answers (read 0 59) (stored (joining n (length nm)) (with_name nm m))) (fault m)

-- no one has the name
unfoldable pub deciding : Registers → List ℕ → Step
deciding r m =
    cond (nat_le 256 r.people) (answers (refused 7) m)
    (cond (nat_le (r.weight + 256) (128 * r.pages)) (answers (read 0 (60 + r.people / 4)) (stored (scanning 22 0 r) m)) (answers (refused 8) m))

-- the names from a page of people on
unfoldable pub looking_from : ℕ → Registers → List ℕ → Step
looking_from i r m = cond (nat_lt (4 * i) r.people) (answers (read 0 (60 + i)) (stored (scanning 21 i r) m)) (deciding r m)

abbrev pub root_came : Registers → List ℕ → List ℕ → Step
root_came r bs m = cond (nat_le (at 0 8 bs) 256) (looking_from 0 (counted (at 0 8 bs) (at 8 8 bs) r) (with_root bs m)) (fault m)

abbrev pub smaller : ℕ → ℕ → ℕ
smaller a b = pick (nat_le a b) a b

abbrev pub names_came : Registers → List ℕ → List ℕ → Step
names_came r bs m =
    cond (nat_lt r.at 64 && (nat_le r.people 256 && nat_le r.long 64))
    (cond (names_on bs (smaller 4 (r.people - 4 * r.at)) (name_in r.long m)) (answers (refused 4) m) (looking_from (r.at + 1) r m))
    (fault m)

-- the batch: the page of the person, and the root; its addresses
unfoldable pub join_head : ℕ → List ℕ → List ℕ
join_head a ws = placed 2 (2 ∷ (a / 4 + 1) ∷ 0 ∷ []) ws

abbrev pub with_new_person : Registers → List ℕ → List ℕ → List ℕ
with_new_person r bs m = with_batch 0 (put_block (r.people % 4) (new_person (name_in r.long m)) bs) m

abbrev pub with_new_root : Registers → List ℕ → List ℕ
with_new_root r m = with_batch 1 (new_root (root_in m) (r.people + 1) (r.weight + 256) (at 16 8 (root_in m))) m

abbrev pub with_join_head : Registers → List ℕ → List ℕ
with_join_head r m = with_head (join_head r.people (head_in m)) m

abbrev pub people_came : Registers → List ℕ → List ℕ → Step
people_came r bs m =
    cond (nat_lt r.people 256 && (nat_le (r.weight + 256) (128 * r.pages) && nat_le r.long 64))
    (answers (read 0 0) (stored (scanning 13 0 r) (with_join_head r (with_new_root r (with_new_person r bs m)))))
    (fault m)

abbrev pub joining_page : Join → Registers → List ℕ → List ℕ → Step
joining_page Root r bs m = root_came r bs m
joining_page Names r bs m = names_came r bs m
joining_page People r bs m = people_came r bs m

-- A COMMAND: 1 is said of what is none, 2 of what is not known yet
abbrev pub said_as : Option Command → List ℕ → ℕ → List ℕ → Step
said_as None t n m = answers (refused 1) m
said_as (Some (JoinCommand p)) t n m = join_said (bytes_in t p) n m
said_as (Some (SetZone k z)) t n m = answers (refused 2) m
said_as (Some (Put a e)) t n m = answers (refused 2) m
said_as (Some (Change a k e)) t n m = answers (refused 2) m
said_as (Some (DropEvent a k)) t n m = answers (refused 2) m
said_as (Some (Skip a k d)) t n m = answers (refused 2) m
said_as (Some (Listing a s)) t n m = answers (refused 2) m
said_as (Some (Busy ps s)) t n m = answers (refused 2) m
said_as (Some (Free ps k s)) t n m = answers (refused 2) m
said_as (Some (Next a u)) t n m = answers (refused 2) m
said_as (Some (Shown a k)) t n m = answers (refused 2) m

-- WHAT IS TOLD
abbrev pub page_in : Phase → Registers → List ℕ → List ℕ → Step
page_in (Waking s) r bs m = waking_page s r bs m
page_in (Committing p) r bs m = committing_page p r bs m
page_in (Joining j) r bs m = joining_page j r bs m
page_in Telling r bs m = fault m
page_in Idle r bs m = fault m

abbrev pub next_in : Phase → Registers → List ℕ → Step
next_in (Waking s) r m = waking_next s r m
next_in (Committing p) r m = committing_next p r m
next_in Telling r m = answers done (stored (scanning 0 0 r) m)
next_in (Joining j) r m = fault m
next_in Idle r m = fault m

abbrev pub starting : ℕ → Registers → Registers
starting n r = record { phase = 1; pages = n; at = 0; side = 0; long = r.long; people = r.people; weight = r.weight }

abbrev pub on_with : ℕ → Registers → List ℕ → Step
on_with n r m = cond (a_house n) (answers (read 0 0) (stored (starting n r) m)) (fault m)

abbrev pub said_with : Registers → List ℕ → List ℕ → Step
said_with r t m = cond (a_house r.pages) (said_as (found t) t r.pages m) (fault m)

abbrev pub page_with : Registers → List ℕ → List ℕ → Step
page_with r bs m = cond (a_house r.pages && a_page bs) (page_in (phase_of r.phase) r bs m) (fault m)

abbrev pub next_with : Registers → List ℕ → Step
next_with r m = cond (a_house r.pages) (next_in (phase_of r.phase) r m) (fault m)

abbrev pub step_of : List ℕ → Event → Step
step_of m (on n) = on_with n (loaded m) m
step_of m (said t) = said_with (loaded m) t m
step_of m (page bs) = page_with (loaded m) bs m
step_of m next = next_with (loaded m) m

-- a memory of another length is left as it is
abbrev pub guarded : List ℕ → Event → Step
guarded m ev = cond (length m == 262144) (step_of m ev) (fault m)

unfoldable pub own : Engine
own = record { start = start_memory; step = guarded }

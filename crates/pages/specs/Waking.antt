-- Power coming up, as a machine by value: told a header, a page or that the last act is done, it hands on its next state and deed. Where it is told
-- what it does not expect, or a number is out of its range, there is no next state. Assumes nothing: these are definitions.
use Rattle.std.specs.Prelude.{ℕ, ◌+◌, Bool, true, false, cond, ◌&&◌, List, ◌∷◌, length, Some, None, Option, ◌==◌, nat_le, nat_lt, slice_index}
use Rattle.pages.specs.Device.{zeros}
use Rattle.pages.specs.Store.{heads_of, slot}
use Rattle.pages.specs.Deeds.{other, side_at, side_number}
use Rattle.pages.specs.declared.deed.Content.TheVariants.{Blank, Told, Header}
use Rattle.pages.specs.declared.deed.Deed.{Deed}
use Rattle.pages.specs.declared.deed.Step.{Step}
use Rattle.pages.specs.declared.deed.Deed.TheVariants.{Read, Write, Ready}
use Rattle.pages.specs.declared.side.Side.{Side}
use Rattle.pages.specs.declared.side.Side.TheVariants.{First, Second}
use Rattle.pages.specs.declared.heads.Source.{Source}
use Rattle.pages.specs.declared.heads.Source.TheVariants.{Both, Only, Neither}
use Rattle.pages.specs.declared.waking.Stage.{Stage}
use Rattle.pages.specs.declared.waking.Stage.TheVariants.{Header as Head, Mending, Wiping, Marking, Asking, Copying, Heading, Slot, Home}
use Rattle.pages.specs.declared.waking.Recovery.{Recovery}

-- the header of a new store: marked, with no addresses
unfoldable pub fresh_head : List ℕ
fresh_head = 1 ∷ zeros 31

-- of two headers' numbers: which count, and which numbers both devices are to have
abbrev pub source_of : List ℕ → List ℕ → Source
source_of ws vs = cond (slice_index ws 0 == 1) (cond (slice_index vs 0 == 1) Both (Only First)) (cond (slice_index vs 0 == 1) (Only Second) Neither)

abbrev pub chosen : List ℕ → List ℕ → List ℕ
chosen ws vs = cond (slice_index ws 0 == 1) ws (cond (slice_index vs 0 == 1) vs fresh_head)

-- the home page of the i-th address
abbrev pub home_of : List ℕ → ℕ → Option ℕ
home_of ws i = cond (nat_lt i 29 && nat_lt (slice_index ws (3 + i)) 1048576) (Some (59 + slice_index ws (3 + i))) None

abbrev pub going : Stage → ℕ → Side → Deed → Recovery → Step Recovery
going s k d a r = record { state = record { stage = s; pages = r.pages; at = k; side = side_number d }; deed = a }

abbrev pub begun : ℕ → Step Recovery
begun n = record { state = record { stage = Head First; pages = n; at = 0; side = 0 }; deed = Read First 0 }

-- blank pages on the first device from one on, then its header
abbrev pub wiped_from : ℕ → Recovery → Step Recovery
wiped_from k r = cond (nat_lt k r.pages) (going Wiping k First (Write First k Blank) r) (going Marking 0 First (Write First 0 Header) r)

-- the pages of a device from one on to the other, then the header
abbrev pub copied_from : Side → ℕ → Recovery → Step Recovery
copied_from d k r = cond (nat_lt k r.pages) (going Asking k d (Read d k) r) (going Heading 0 d (Write (other d) 0 Header) r)

-- a page of a device's journal is asked for
abbrev pub fetched : Side → List ℕ → ℕ → Recovery → Step Recovery
fetched d ws i r = going (Slot d) i First (Read d (slot (slice_index ws 1 == 1) i)) r

-- the pages of the journal from one on to their homes
abbrev pub replayed_from : List ℕ → ℕ → Recovery → Step Recovery
replayed_from ws i r = cond (nat_lt i (slice_index ws 2)) (fetched First ws i r) (going (Head First) 0 First Ready r)

abbrev pub brought : Source → Recovery → Step Recovery
brought Both r = going Mending 0 First (Write Second 0 Header) r
brought (Only d) r = copied_from d 1 r
brought Neither r = wiped_from 1 r

-- which headers are awaited
abbrev pub awaits_header : Stage → Bool
awaits_header (Head d) = true
awaits_header Mending = false
awaits_header Wiping = false
awaits_header Marking = false
awaits_header Asking = false
awaits_header Copying = false
awaits_header Heading = false
awaits_header (Slot d) = false
awaits_header (Home d) = false

abbrev pub is_second : Stage → Bool
is_second (Head First) = false
is_second (Head Second) = true
is_second Mending = false
is_second Wiping = false
is_second Marking = false
is_second Asking = false
is_second Copying = false
is_second Heading = false
is_second (Slot d) = false
is_second (Home d) = false

-- a header came: its step, and the header's numbers after it
abbrev pub hears : Stage → List ℕ → List ℕ → Recovery → Step Recovery
hears s ws bs r = cond (is_second s) (brought (source_of ws (heads_of bs)) r) (going (Head Second) 0 First (Read Second 0) r)

abbrev pub heard_head : Stage → List ℕ → List ℕ → List ℕ
heard_head s ws bs = cond (is_second s) (chosen ws (heads_of bs)) (heads_of bs)

-- every number is in its range
abbrev pub in_range : Recovery → Bool
in_range r = nat_le r.pages 1048576 && (nat_le r.at 1048576 && nat_le r.side 1)

abbrev pub steady : Recovery → List ℕ → Bool
steady r ws = in_range r && length ws == 32

abbrev pub homing : Option ℕ → Side → Recovery → Option (Step Recovery)
homing None d r = None
homing (Some k) d r = Some (going (Home d) r.at First (Write d k Told) r)

-- another page came
abbrev pub page_at : Stage → List ℕ → Recovery → Option (Step Recovery)
page_at Asking ws r = Some (going Copying r.at (side_at r.side) (Write (other (side_at r.side)) r.at Told) r)
page_at (Slot d) ws r = homing (home_of ws r.at) d r
page_at (Head d) ws r = None
page_at Mending ws r = None
page_at Wiping ws r = None
page_at Marking ws r = None
page_at Copying ws r = None
page_at Heading ws r = None
page_at (Home d) ws r = None

abbrev pub page_of : Recovery → List ℕ → Option (Step Recovery)
page_of r ws = cond (steady r ws) (page_at r.stage ws r) None

-- the last act is done
abbrev pub next_at : Stage → List ℕ → Recovery → Option (Step Recovery)
next_at Wiping ws r = Some (wiped_from (r.at + 1) r)
next_at Marking ws r = Some (copied_from First 1 r)
next_at Copying ws r = Some (copied_from (side_at r.side) (r.at + 1) r)
next_at (Home First) ws r = Some (fetched Second ws r.at r)
next_at (Home Second) ws r = Some (replayed_from ws (r.at + 1) r)
next_at Mending ws r = Some (replayed_from ws 0 r)
next_at Heading ws r = Some (replayed_from ws 0 r)
next_at (Head d) ws r = None
next_at Asking ws r = None
next_at (Slot d) ws r = None

abbrev pub next_of : Recovery → List ℕ → Option (Step Recovery)
next_of r ws = cond (steady r ws) (next_at r.stage ws r) None

-- People and events on logical pages. Assumes nothing: these are definitions.
use Rattle.std.specs.Prelude.{ℕ, zero, suc, ◌+◌, ◌-◌, ◌*◌, ◌/◌, ◌%◌, List, [], ◌∷◌, ◌++◌, length, drop, ◌==◌, nat_lt}
use Rattle.pages.specs.Lists.{pick, each, flat, bit}
use Rattle.pages.specs.Bytes.{in_bytes}
use Rattle.pages.specs.Device.{Page, zeros}
use Rattle.pages.specs.Fields.{number, fd, Field, fields, pad}
use Rattle.pages.specs.Cells.{Cell, cell, looked_up}
use Rattle.dates.specs.Zone.{Zone}
use Rattle.recurrence.specs.Event.{Event, has}
use Rattle.records.specs.House.{Entry, Person, Plain, weight}

-- GHOST: an event with the addresses of its pages; a person with the chain of events, the newest first; a house
pub record Slot : Type 0 where
  pub number : ℕ
  pub event : Event
  pub place : ℕ
  pub more : List ℕ

pub record Owner : Type 0 where
  pub name : List ℕ
  pub next : ℕ
  pub chain : List Slot

pub record Ghost : Type 0 where
  pub zones : List Zone
  pub owners : List Owner
  pub cursor : ℕ

-- what it is of the plain house
abbrev pub entry : Slot → Entry
entry s = record { number = s.number; event = s.event }

abbrev pub entries_of : List Slot → List Entry
entries_of [] = []
entries_of (s ∷ ss) = entries_of ss ++ entry s ∷ []

abbrev pub person : Owner → Person
person o = record { name = o.name; next = o.next; entries = entries_of o.chain }

abbrev pub plain : Ghost → Plain
plain g = record { zones = g.zones; people = each person g.owners }

-- so many places of four bytes
unfoldable pub fours : ℕ → List ℕ → List ℕ → List ℕ
fours zero as₁ r = r
fours (suc m) [] r = in_bytes 4 0 (fours m [] r)
fours (suc m) (a ∷ as₁) r = in_bytes 4 a (fours m as₁ r)

unfoldable pub read_fours : ℕ → List ℕ → List ℕ
read_fours zero p = []
read_fours (suc c) p = number 4 p ∷ read_fours c (drop 4 p)

-- IMAGES; all other pages are blank
unfoldable pub body : Event → List ℕ
body e = e.title ++ flat (λ d. in_bytes 3 d []) e.left_out

abbrev pub body_length : ℕ → ℕ → ℕ
body_length t d = t + 3 * d

-- how many further pages
abbrev pub further : ℕ → ℕ
further l = (l - 384 + 510) / 511

abbrev pub first_fields : ℕ → ℕ → Event → List Field
first_fields link n e =
    fd 1 1 ∷ fd 4 link ∷ fd 8 n ∷ fd 1 (length e.title) ∷ fd 2 (length e.left_out)
    ∷ fd 1 e.zone ∷ fd 3 e.first ∷ fd 2 e.minute ∷ fd 2 e.long ∷ fd 1 (bit e.busy)
    ∷ fd 1 e.repeat.kind ∷ fd 2 e.repeat.step ∷ fd 2 e.repeat.times ∷ fd 3 e.repeat.last
    ∷ fd 1 (bit (has e.repeat.weekdays 0)) ∷ fd 1 (bit (has e.repeat.weekdays 1)) ∷ fd 1 (bit (has e.repeat.weekdays 2)) ∷ fd 1 (bit (has e.repeat.weekdays 3))
    ∷ fd 1 (bit (has e.repeat.weekdays 4)) ∷ fd 1 (bit (has e.repeat.weekdays 5)) ∷ fd 1 (bit (has e.repeat.weekdays 6)) ∷ []

-- 40 bytes of fields, 22 addresses, and 384 of the body
unfoldable pub first_page : ℕ → Slot → Page
first_page link s = fields (first_fields link s.number s.event) (fours 22 s.more (pad 384 (body s.event)))

unfoldable pub further_cells : List ℕ → List ℕ → List Cell
further_cells [] bs = []
further_cells (a ∷ as₁) bs = cell a (2 ∷ pad 511 bs) ∷ further_cells as₁ (drop 511 bs)

abbrev pub slot_cells : ℕ → Slot → List Cell
slot_cells link s = cell s.place (first_page link s) ∷ further_cells s.more (drop 384 (body s.event))

abbrev pub head_or : List Slot → ℕ → ℕ
head_or [] l = l
head_or (s ∷ ss) l = s.place

-- a chain, or the front of one, and the address of what comes after it
unfoldable pub chain_cells : List Slot → ℕ → List Cell
chain_cells [] l = []
chain_cells (s ∷ ss) l = slot_cells (head_or ss l) s ++ chain_cells ss l

unfoldable pub all_cells : List Owner → List Cell
all_cells [] = []
all_cells (o ∷ os) = chain_cells o.chain 0 ++ all_cells os

-- 13 bytes of fields and the name
unfoldable pub person_record : Owner → List ℕ
person_record o = fields (fd 1 (length o.name) ∷ fd 8 o.next ∷ fd 4 (head_or o.chain 0) ∷ []) (pad 115 o.name)

unfoldable pub rec : List Owner → ℕ → List ℕ
rec [] i = zeros 128
rec (o ∷ os) zero = person_record o
rec (o ∷ os) (suc i) = rec os i

-- so many records from one on
unfoldable pub row : List Owner → ℕ → ℕ → List ℕ
row os i zero = []
row os i (suc m) = rec os i ++ row os (suc i) m

-- a zone, so that no zone is all 0
abbrev pub zone_bytes : Zone → List ℕ
zone_bytes z =
    fields (fd 2 ((z.east + 64816) % 65536) ∷ fd 1 z.extra ∷ fd 1 (z.from_month - 1) ∷ fd 1 (z.from_week - 1) ∷ fd 1 (z.to_month - 1) ∷ fd 1 (z.to_week - 1) ∷ fd 2 z.at ∷ []) []

unfoldable pub root_page : Ghost → Page
root_page g = fields (fd 8 (length g.owners) ∷ fd 8 (weight (plain g)) ∷ fd 8 g.cursor ∷ []) (pad 488 (flat zone_bytes g.zones))

-- the root, 64 pages of people, and the region of events
unfoldable pub image : Ghost → ℕ → Page
image g k = pick (k == 0) (root_page g) (pick (nat_lt k 65) (row g.owners (4 * (k - 1)) 4) (looked_up (all_cells g.owners) k (zeros 512)))

-- What a command does to logical pages, as a function of the pages: what is answered, shown and written. Assumes nothing: these are definitions.
use Rattle.std.specs.Prelude.{◌≡◌, ℕ, zero, suc, ◌+◌, ◌-◌, ◌*◌, ◌/◌, ◌%◌, ◌≤◌, Bool, true, false, ◌&&◌, List, [], ◌∷◌, ◌++◌, length, take, drop, ◌==◌, nat_eq, nat_le, nat_lt, slice_index}
use Rattle.pages.specs.Lists.{pick, or, every, any, each, those, flat, same, so_many}
use Rattle.pages.specs.Bytes.{in_bytes, eight}
use Rattle.pages.specs.Device.{Page, page_at, zeros, blank}
use Rattle.pages.specs.Fields.{number, at, fd, fields, pad}
use Rattle.pages.specs.Cells.{Cell, cell, written}
use Rattle.dates.specs.Zone.{no_zone}
use Rattle.recurrence.specs.Event.{Event, Repeat, occurs}
use Rattle.recurrence.specs.Span.{days_from}
use Rattle.records.specs.House.{Plain, turn, Entry, event_weight, left_out_too}
use Rattle.records.specs.Command.{fits, event_spelled, Command, join, zone, put, change, drop_event, skip, list, busy_times, free, next_one, shown}
use Rattle.records.specs.Layout.{read_fours, slot_cells, further, body_length}
use Rattle.records.specs.Promise.{TurnMay}

pub record Outcome : Type 0 where
  pub reply : ℕ
  pub shows : List (List ℕ)
  pub batch : List Cell

abbrev pub refuse : ℕ → Outcome
refuse k = record { reply = k; shows = []; batch = [] }

abbrev pub accept : List (List ℕ) → List Cell → Outcome
accept ss b = record { reply = 0; shows = ss; batch = b }

-- THE ROOT
abbrev pub count_in : List Page → ℕ
count_in ps = at 0 8 (page_at ps 0)

abbrev pub weight_in : List Page → ℕ
weight_in ps = at 8 8 (page_at ps 0)

abbrev pub cursor_in : List Page → ℕ
cursor_in ps = at 16 8 (page_at ps 0)

unfoldable pub new_root : Page → ℕ → ℕ → ℕ → Page
new_root p c w k = fields (fd 8 c ∷ fd 8 w ∷ fd 8 k ∷ []) (drop 24 p)

-- PEOPLE: a page from a record on, and with another record there
unfoldable pub block : ℕ → Page → List ℕ
block zero p = p
block (suc r) p = block r (drop 128 p)

unfoldable pub put_block : ℕ → List ℕ → Page → Page
put_block zero b p = b ++ drop 128 p
put_block (suc r) b p = take 128 p ++ put_block r b (drop 128 p)

abbrev pub record_in : List Page → ℕ → List ℕ
record_in ps a = block (a % 4) (page_at ps (suc (a / 4)))

abbrev pub name_in : List ℕ → List ℕ
name_in r = take (at 0 1 r) (drop 13 r)

abbrev pub next_in : List ℕ → ℕ
next_in r = at 1 8 r

abbrev pub head_in : List ℕ → ℕ
head_in r = at 9 4 r

unfoldable pub new_record : List ℕ → ℕ → ℕ → List ℕ
new_record r next head = fields (fd 1 (at 0 1 r) ∷ fd 8 next ∷ fd 4 head ∷ []) (take 115 (drop 13 r))

-- the record of somebody who joins
unfoldable pub new_person : List ℕ → List ℕ
new_person name = fields (fd 1 (length name) ∷ fd 8 1 ∷ fd 4 0 ∷ []) (pad 115 name)

-- every batch ends with the person's page and the root
abbrev pub closing : List Page → ℕ → List ℕ → ℕ → ℕ → ℕ → List Cell
closing ps a r count w k = cell (suc (a / 4)) (put_block (a % 4) r (page_at ps (suc (a / 4)))) ∷ cell 0 (new_root (page_at ps 0) count w k) ∷ []

-- EVENTS
abbrev pub link_in : Page → ℕ
link_in p = at 1 4 p

abbrev pub title_in : Page → ℕ
title_in p = at 13 1 p

abbrev pub days_in : Page → ℕ
days_in p = at 14 2 p

abbrev pub weight_of_page : Page → ℕ
weight_of_page p = 256 + title_in p + 8 * days_in p

abbrev pub more_in : Page → List ℕ
more_in p = read_fours (further (body_length (title_in p) (days_in p))) (drop 40 p)

abbrev pub event_length : Event → ℕ
event_length e = body_length (length e.title) (length e.left_out)

unfoldable pub relink : ℕ → Page → Page
relink l p = take 1 p ++ in_bytes 4 l (drop 5 p)

abbrev pub blanks : List ℕ → List Cell
blanks as₁ = each (λ a. cell a (zeros 512)) as₁

-- where an event is: what comes before it (0: nothing), and its first page (0: there is none)
pub record Spot : Type 0 where
  pub before : ℕ
  pub here : ℕ

abbrev pub spot : ℕ → ℕ → Spot
spot b h = record { before = b; here = h }

unfoldable pub walk : ℕ → List Page → ℕ → ℕ → ℕ → Spot
walk zero ps b a n = spot 0 0
walk (suc f) ps b a n =
    pick (a == 0) (spot 0 0) (pick (at 5 8 (page_at ps a) == n) (spot b a) (walk f ps a (link_in (page_at ps a)) n))

-- free pages: from a cursor on, around the region
abbrev pub is_free : List Page → ℕ → Bool
is_free ps k = at 0 1 (page_at ps k) == 0

abbrev pub region : ℕ → ℕ → List ℕ
region n c = days_from (65 + c) (n - 124 - c) ++ days_from 65 c

unfoldable pub free_pages : List Page → ℕ → ℕ → ℕ → List ℕ
free_pages ps n c m = take m (those (is_free ps) (region n c))

-- COMMANDS
-- has somebody of so many people this name?
unfoldable pub names_in : List Page → ℕ → List ℕ → Bool
names_in ps count name = any (λ a. same (name_in (record_in ps a)) name) (days_from 0 count)

-- the same of the first people on one page
unfoldable pub names_on : Page → ℕ → List ℕ → Bool
names_on p count name = any (λ a. same (name_in (block a p)) name) (days_from 0 count)

-- and of so many pages from one on, four people on each
unfoldable pub names_from : ℕ → List Page → ℕ → ℕ → List ℕ → Bool
names_from zero ps count i name = false
names_from (suc j) ps count i name = or (names_on (page_at ps (suc i)) (pick (nat_le 4 (count - 4 * i)) 4 (count - 4 * i)) name) (names_from j ps count (suc i) name)

-- what was read is an argument, here and below: one rewriting then turns it into what it means
unfoldable pub join_accepted : List Page → List ℕ → ℕ → ℕ → ℕ → Outcome
join_accepted ps name count w k =
    accept (eight count ∷ []) (closing ps count (new_person name) (suc count) (w + 256) k)

unfoldable pub do_join : ℕ → List Page → List ℕ → Outcome
do_join n ps name =
    pick (names_in ps (count_in ps) name) (refuse 4)
    (pick (nat_le 256 (count_in ps)) (refuse 7)
    (pick (nat_le (weight_in ps + 256) (128 * n)) (join_accepted ps name (count_in ps) (weight_in ps) (cursor_in ps)) (refuse 8)))

unfoldable pub put_accepted : List Page → ℕ → Event → List ℕ → List ℕ → ℕ → ℕ → ℕ → ℕ → Outcome
put_accepted ps a e as₁ r next head count w =
    accept (eight next ∷ [])
    (slot_cells head (record { number = next; event = e; place = slice_index as₁ 0; more = drop 1 as₁ })
    ++ closing ps a (new_record r (suc next) (slice_index as₁ 0)) count (w + event_weight e) (slice_index as₁ 0 - 65))

unfoldable pub do_put : ℕ → List Page → ℕ → Event → Outcome
do_put n ps a e =
    pick (nat_lt a (count_in ps))
    (pick (nat_le (weight_in ps + event_weight e) (128 * n))
    (put_accepted ps a e (free_pages ps n (cursor_in ps) (suc (further (event_length e)))) (record_in ps a) (next_in (record_in ps a)) (head_in (record_in ps a)) (count_in ps) (weight_in ps))
    (refuse 8))
    (refuse 3)

-- the event's first page with its new further pages; those that it has no more
unfoldable pub change_accepted : List Page → ℕ → ℕ → Event → ℕ → ℕ → List ℕ → List ℕ → List ℕ → ℕ → ℕ → ℕ → ℕ → ℕ → Outcome
change_accepted ps a num e here link had new r next head count w k =
    accept []
    ((slot_cells link (record { number = num; event = e; place = here; more = take (further (event_length e)) had ++ new }) ++ blanks (drop (further (event_length e)) had))
    ++ closing ps a (new_record r next head) count w k)

abbrev pub spot_in : List Page → ℕ → ℕ → Spot
spot_in ps a num = walk (length ps) ps 0 (head_in (record_in ps a)) num

unfoldable pub change_found : ℕ → List Page → ℕ → ℕ → Event → ℕ → Outcome
change_found n ps a num e here =
    let w : ℕ = weight_in ps - weight_of_page (page_at ps here) + event_weight e in
    pick (nat_lt (weight_in ps) w && nat_lt (128 * n) w) (refuse 8)
    (change_accepted ps a num e here (link_in (page_at ps here)) (more_in (page_at ps here))
    (free_pages ps n (cursor_in ps) (further (event_length e) - length (more_in (page_at ps here))))
    (record_in ps a) (next_in (record_in ps a)) (head_in (record_in ps a)) (count_in ps) w (cursor_in ps))

unfoldable pub do_change : ℕ → List Page → ℕ → ℕ → Event → Outcome
do_change n ps a num e =
    pick (nat_lt a (count_in ps))
    (pick ((spot_in ps a num).here == 0) (refuse 3) (change_found n ps a num e (spot_in ps a num).here))
    (refuse 3)

unfoldable pub drop_accepted : List Page → ℕ → ℕ → ℕ → ℕ → List ℕ → List ℕ → ℕ → ℕ → ℕ → ℕ → ℕ → Outcome
drop_accepted ps a before here link had r next head count w k =
    accept []
    ((pick (before == 0) [] (cell before (relink link (page_at ps before)) ∷ []) ++ blanks (here ∷ had))
    ++ closing ps a (new_record r next (pick (before == 0) link head)) count w k)

unfoldable pub drop_found : List Page → ℕ → ℕ → ℕ → Outcome
drop_found ps a before here =
    drop_accepted ps a before here (link_in (page_at ps here)) (more_in (page_at ps here))
    (record_in ps a) (next_in (record_in ps a)) (head_in (record_in ps a)) (count_in ps) (weight_in ps - weight_of_page (page_at ps here)) (cursor_in ps)

unfoldable pub do_drop : List Page → ℕ → ℕ → Outcome
do_drop ps a num =
    pick (nat_lt a (count_in ps))
    (pick ((spot_in ps a num).here == 0) (refuse 3) (drop_found ps a (spot_in ps a num).before (spot_in ps a num).here))
    (refuse 3)

-- AN EVENT IS READ: the first page, then the further ones
unfoldable pub read_threes : ℕ → List ℕ → List ℕ
read_threes zero p = []
read_threes (suc c) p = number 3 p ∷ read_threes c (drop 3 p)

abbrev pub body_in : List Page → ℕ → List ℕ
body_in ps here = drop 128 (page_at ps here) ++ flat (λ a. drop 1 (page_at ps a)) (more_in (page_at ps here))

abbrev pub repeat_in : Page → Repeat
repeat_in p = record { kind = at 25 1 p; step = at 26 2 p; weekdays = those (λ w. nat_eq (at (33 + w) 1 p) 1) (days_from 0 7); times = at 28 2 p; last = at 30 3 p }

abbrev pub event_from : Page → List ℕ → Event
event_from p bs = record {
  title = take (title_in p) bs;
  zone = at 16 1 p;
  first = at 17 3 p;
  minute = at 20 2 p;
  long = at 22 2 p;
  busy = (at 24 1 p == 1);
  repeat = repeat_in p;
  left_out = read_threes (days_in p) (drop (title_in p) bs);
}

unfoldable pub load : List Page → ℕ → Event
load ps here = event_from (page_at ps here) (body_in ps here)

unfoldable pub do_shown : List Page → ℕ → ℕ → Outcome
do_shown ps a num =
    pick (nat_lt a (count_in ps))
    (pick ((spot_in ps a num).here == 0) (refuse 3) (accept (event_spelled (load ps (spot_in ps a num).here) ∷ []) []))
    (refuse 3)

unfoldable pub do_skip : ℕ → List Page → ℕ → ℕ → ℕ → Outcome
do_skip n ps a num d =
    pick (nat_lt a (count_in ps))
    (pick ((spot_in ps a num).here == 0) (refuse 3)
    (pick (occurs (load ps (spot_in ps a num).here) d)
    (pick (nat_le 1000 (length (load ps (spot_in ps a num).here).left_out)) (refuse 7)
    (change_found n ps a num (left_out_too d (load ps (spot_in ps a num).here)) (spot_in ps a num).here))
    (refuse 3)))
    (refuse 3)

-- what a command does to pages, of those that are known here
unfoldable pub does : ℕ → List Page → Command → Outcome
does n ps (join nm) = do_join n ps nm
does n ps (zone k z) = refuse 2
does n ps (put a e) = do_put n ps a e
does n ps (change a num e) = do_change n ps a num e
does n ps (drop_event a num) = do_drop ps a num
does n ps (skip a num d) = do_skip n ps a num d
does n ps (list a f t) = refuse 2
does n ps (busy_times as₁ f t) = refuse 2
does n ps (free as₁ k f t) = refuse 2
does n ps (next_one a t) = refuse 2
does n ps (shown a num) = do_shown ps a num

unfoldable pub known_here : Command → Bool
known_here (join nm) = true
known_here (zone k z) = false
known_here (put a e) = true
known_here (change a num e) = true
known_here (drop_event a num) = true
known_here (skip a num d) = true
known_here (list a f t) = false
known_here (busy_times as₁ f t) = false
known_here (free as₁ k f t) = false
known_here (next_one a t) = false
known_here (shown a num) = true

-- A person's events, the newest first, as one walk reads them
unfoldable pub entries_in : ℕ → List Page → ℕ → List Entry
entries_in zero ps a = []
entries_in (suc f) ps a = pick (a == 0) [] (record { number = at 5 8 (page_at ps a); event = load ps a } ∷ entries_in f ps (link_in (page_at ps a)))

-- ANY COMMANDS, one after another, from blank pages: beside the plain house
unfoldable pub RightRun : ℕ → List Page → Plain → List Command → Type 0
RightRun n ps w [] = zero ≡ zero
RightRun n ps w (c ∷ cs) = (w₁ : Plain) × TurnMay n w (turn w c) (does n ps c).shows (does n ps c).reply w₁ × RightRun n (written ps (does n ps c).batch) w₁ cs

unfoldable pub PagesRight : Type 0
PagesRight =
    (n : ℕ) (cs : List Command) → 256 ≤ n → n ≤ 1048576 → length cs ≤ 4294967296 → every (λ c. fits c && known_here c) cs ≡ true →
    RightRun n (blank (n - 59)) (record { zones = so_many 16 no_zone; people = [] }) cs

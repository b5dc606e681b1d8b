-- The pages of an event are those that the layout says, and what they say is what is read.
use Rattle.std.proofs.Common.{◌≡◌, ℕ, zero, suc, ◌+◌, ◌*◌, ◌<◌, ◌≤◌, Bool, true, false, eqb, List, [], ◌∷◌, ◌++◌, length, get_or, take, drop, sym, refl, ap, ◌∙◌, arith}
use Rattle.std.proofs.lemmas.List.{append_assoc, drop-drop}
use Rattle.std.specs.Int.{from_bool}
use Rattle.pages.specs.Lists.{bit, those}
use Rattle.pages.specs.Device.{Page, page_at}
use Rattle.pages.specs.Fields.{at, number, Field, fields, pad}
use Rattle.pages.specs.Cells.{keys, contents}
use Rattle.pages.proofs.Fields.{fields_append}
use Rattle.recurrence.specs.Event.{Event as MeantEvent}
use Rattle.recurrence.specs.Span.{days_from}
use Rattle.recurrence.specs.Value.{event_with}
use Rattle.recurrence.specs.Week.{days_of, places}
use Rattle.recurrence.specs.declared.event.Event.{Event}
use Rattle.recurrence.proofs.Weeks.{has_day}
use Rattle.records.specs.Layout.{Slot, body, body_length, first_fields, first_page, fours, further, further_cells, read_fours}
use Rattle.records.specs.Does.{days_in, event_from, more_in, read_threes, repeat_in, title_in}
use Rattle.records.specs.Sheets.{event_value, fields_of, laid, repeat_value, threes, week_value}
use Rattle.records.proofs.Chains.{further_keys}
use Rattle.records.proofs.Events.{kind_back}
use Rattle.records.proofs.SheetBytes.{fours_append, pad_part}

-- THE BODY
pub body_is : (e : Event) (t d : List ℕ) → t ++ threes d ≡ body (event_with e t d)
unfolding body
body_is e t d = refl

-- THE FIRST PAGE
pub first_laid : (link n : ℕ) (e : Event) (t d : List ℕ) → laid (fields_of (record { link = link; number = n; title = length t; days = length d; event = e })) ≡ first_fields link n (event_with e t d)
unfolding fields_of
first_laid link n e t d =
    let w = e.repeat.weekdays in
    rw (has_day w 0, has_day w 1, has_day w 2, has_day w 3, has_day w 4, has_day w 5, has_day w 6)

-- bits of the code
pub bit_is : (b : Bool) → from_bool b ≡ bit b
bit_is true = refl
bit_is false = refl

pub joined_parts : (fs : List Field) (as₁ r : List ℕ) → fields fs [] ++ fours 22 as₁ [] ++ r ≡ fields fs (fours 22 as₁ r)
joined_parts fs as₁ r = append_assoc (fields fs []) (fours 22 as₁ []) r ∙ ap (λ z. fields fs [] ++ z) (fours_append 22 as₁ [] r) ∙ fields_append fs [] (fours 22 as₁ r)

pub first_page_is : (link : ℕ) (s : Slot) (bs : List ℕ) → bs ≡ pad 3450 (body s.event) →
    fields (first_fields link s.number s.event) (fours 22 s.more (take 384 bs)) ≡ first_page link s
unfolding first_page
first_page_is link s bs e = ap (λ z. fields (first_fields link s.number s.event) (fours 22 s.more z)) (ap (take 384) e ∙ pad_part 0 384 3450 (body s.event) (omega arith))

-- THE FURTHER PAGES
pub further_key : (as₁ bs : List ℕ) (j : ℕ) → get_or (keys (further_cells as₁ bs)) j 0 ≡ get_or as₁ j 0
further_key as₁ bs j = rw (further_keys as₁ bs)

cells_at : (as₁ bs : List ℕ) (j : ℕ) → j < length as₁ → page_at (contents (further_cells as₁ bs)) j ≡ 2 ∷ pad 511 (drop (511 * j) bs)
unfolding contents further_cells page_at
cells_at [] bs j h = absurd (omega arith)
cells_at (a ∷ as₁) bs zero h = refl
cells_at (a ∷ as₁) bs (suc j) h =
    let e : 511 + 511 * j ≡ 511 * suc j = omega arith in
    cells_at as₁ (drop 511 bs) j (omega arith) ∙ ap (λ z. 2 ∷ pad 511 z) (drop-drop (511 * j) 511 bs ∙ ap (λ k. drop k bs) e)

pub further_page : (as₁ : List ℕ) (e : MeantEvent) (bs : List ℕ) (j : ℕ) → bs ≡ pad 3450 (body e) → j < length as₁ → length as₁ ≤ 6 →
    page_at (contents (further_cells as₁ (drop 384 (body e)))) j ≡ 2 ∷ take 511 (drop (384 + 511 * j) bs)
further_page as₁ e bs j q h l =
    cells_at as₁ (drop 384 (body e)) j h ∙ ap (λ z. 2 ∷ pad 511 z) (drop-drop (511 * j) 384 (body e))
    ∙ ap (λ z. 2 ∷ z) (sym (ap (λ z. take 511 (drop (384 + 511 * j) z)) q ∙ pad_part (384 + 511 * j) 511 3450 (body e) (omega arith)))

-- WHAT A FIRST PAGE SAYS
week_there : (p : Page) → days_of (week_value p) ≡ those (λ w. eqb (at (33 + w) 1 p) 1) (days_from 0 7)
unfolding days_of places week_value days_from
week_there p = refl

-- with a title and days left out
pub event_said : (p : Page) (t d : List ℕ) → at 25 1 p ≤ 6 →
    event_with (event_value p) t d
    ≡ record { title = t; zone = at 16 1 p; first = at 17 3 p; minute = at 20 2 p; long = at 22 2 p; busy = eqb (at 24 1 p) 1; repeat = repeat_in p; left_out = d }
unfolding event_value repeat_value
event_said p t d h = rw (kind_back (at 25 1 p) h, week_there p)

pub event_there : (p : Page) (bs t d : List ℕ) → at 25 1 p ≤ 6 → t ≡ take (title_in p) bs → d ≡ read_threes (days_in p) (drop (title_in p) bs) → event_with (event_value p) t d ≡ event_from p bs
event_there p bs t d h et ed = ap (λ v. event_with (event_value p) v d) et ∙ ap (event_with (event_value p) (take (title_in p) bs)) ed ∙ event_said p _ _ h

-- ITS ADDRESSES
pub length_read_fours : (c : ℕ) (bs : List ℕ) → length (read_fours c bs) ≡ c
unfolding read_fours
length_read_fours zero bs = refl
length_read_fours (suc c) bs = ap suc (length_read_fours c (drop 4 bs))

four_read : (c i : ℕ) (bs : List ℕ) → i < c → get_or (read_fours c bs) i 0 ≡ number 4 (drop (4 * i) bs)
unfolding read_fours
four_read zero i bs h = absurd (omega arith)
four_read (suc c) zero bs h = refl
four_read (suc c) (suc i) bs h =
    let e : 4 + 4 * i ≡ 4 * suc i = omega arith in
    four_read c i (drop 4 bs) (omega arith) ∙ ap (number 4) (drop-drop (4 * i) 4 bs ∙ ap (λ j. drop j bs) e)

pub length_more : (p : Page) → length (more_in p) ≡ further (body_length (title_in p) (days_in p))
length_more p = length_read_fours _ (drop 40 p)

pub address_more : (p : Page) (i : ℕ) → i < length (more_in p) → get_or (more_in p) i 0 ≡ number 4 (drop (40 + 4 * i) p)
address_more p i h =
    let c : ℕ = further (body_length (title_in p) (days_in p)) in
    let l : i < further (body_length (title_in p) (days_in p)) = rw (length_more p) at h in
    four_read c i (drop 40 p) l ∙ ap (number 4) (drop-drop (4 * i) 40 p)

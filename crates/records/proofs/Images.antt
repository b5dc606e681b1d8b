-- An image is a page; and the new house is all blank.
use Rattle.std.proofs.Common.{◌≡◌, ℕ, zero, suc, ◌-◌, ◌*◌, ◌<◌, ◌≤◌, Bool, true, false, eqb, ltb, List, [], ◌∷◌, ◌++◌, length, drop, sym, refl, ap, ◌∙◌, zero-le, arith, length-append}
use Rattle.std.proofs.lemmas.Bool.{eq-eqb, and_from}
use Rattle.pages.specs.Lists.{pick, flat, so_many}
use Rattle.pages.specs.Bytes.{in_bytes, all_bytes}
use Rattle.pages.specs.Device.{Page, page_at, zeros, a_page, blank}
use Rattle.pages.specs.Fields.{fd, fields, pad}
use Rattle.pages.specs.Cells.{Cell, looked_up, written, times, keys}
use Rattle.pages.proofs.Fields.{length_fields, length_pad, bytes_fields}
use Rattle.pages.proofs.Cells.{tk, looked_up_present, length_written, written_at}
use Rattle.pages.proofs.ByteLists.{bytes_in_bytes, bytes_append, bytes_take, bytes_drop}
use Rattle.pages.proofs.Pages.{length_blank, blank_at, zeros_page}
use Rattle.dates.specs.Zone.{no_zone}
use Rattle.recurrence.specs.Event.{an_event, Event}
use Rattle.records.specs.House.{Plain, weight}
use Rattle.records.specs.Layout.{fours, Slot, Owner, Ghost, plain, first_page, first_fields, further_cells, head_or, chain_cells, all_cells, person_record, rec, row, root_page, zone_bytes, image, body}
use Rattle.records.proofs.Holds.{Each, Sound, SoundOwner, SoundSlot, Holds, Fine, length_rec}
use Rattle.records.proofs.Chains.{each_join}
use Rattle.records.proofs.Fours.{bytes_fours, length_fours}
use Rattle.records.proofs.Bounds.{bounds}

bytes_zeros : (n : ℕ) → all_bytes (zeros n) ≡ true
unfolding zeros
bytes_zeros zero = refl
bytes_zeros (suc n) = bytes_zeros n

bytes_pad : (w : ℕ) (xs : List ℕ) → all_bytes xs ≡ true → all_bytes (pad w xs) ≡ true
unfolding pad
bytes_pad w xs h = bytes_take w (xs ++ zeros w) (bytes_append xs (zeros w) h (bytes_zeros w))

bytes_flat : {A : Type 0} (f : A → List ℕ) (xs : List A) → ((x : A) → all_bytes (f x) ≡ true) → all_bytes (flat f xs) ≡ true
bytes_flat f [] h = refl
bytes_flat f (x ∷ xs) h = bytes_append (f x) (flat f xs) (h x) (bytes_flat f xs h)

is_page : (p : Page) → length p ≡ 512 → all_bytes p ≡ true → a_page p ≡ true
is_page p l h = and_from (eqb (length p) 512) _ (eq-eqb (length p) 512 l) h

body_bytes : (e : Event) → an_event e ≡ true → all_bytes (body e) ≡ true
unfolding body
body_bytes e h = bytes_append e.title _ (bounds e h).title_bytes (bytes_flat (λ d. in_bytes 3 d []) e.left_out (λ d. bytes_in_bytes 3 d [] refl))

first_is_page : (l : ℕ) (s : Slot) → SoundSlot s → a_page (first_page l s) ≡ true
unfolding first_page
first_is_page l s ok =
    let r = pad 384 (body s.event) in
    is_page _ (length_fields (first_fields l s.number s.event) (fours 22 s.more r) ∙ omega (arith, length_fours 22 s.more r, length_pad 384 (body s.event)))
    (bytes_fields (first_fields l s.number s.event) _ (bytes_fours 22 s.more r (bytes_pad 384 _ (body_bytes s.event ok.fits))))

abbrev PageCell : Cell → Type 0
PageCell c = a_page c.page ≡ true

further_pages : (as₁ bs : List ℕ) → all_bytes bs ≡ true → Each PageCell (further_cells as₁ bs)
unfolding Each further_cells
further_pages [] bs h = tt
further_pages (a ∷ as₁) bs h = (is_page (2 ∷ pad 511 bs) (ap suc (length_pad 511 bs)) (bytes_pad 511 bs h), further_pages as₁ (drop 511 bs) (bytes_drop 511 bs h))

chain_pages : (ss : List Slot) (l : ℕ) → Each SoundSlot ss → Each PageCell (chain_cells ss l)
unfolding Each chain_cells
chain_pages [] l h = tt
chain_pages (s ∷ ss) l h = (
  first_is_page (head_or ss l) s h.0,
  each_join PageCell (further_cells s.more (drop 384 (body s.event))) (chain_cells ss l) (further_pages s.more _ (bytes_drop 384 (body s.event) (body_bytes s.event h.0.fits))) (chain_pages ss l h.1),
)

all_pages : (b : ℕ) (os : List Owner) → Each (SoundOwner b) os → Each PageCell (all_cells os)
unfolding Each all_cells
all_pages b [] h = tt
all_pages b (o ∷ os) h = each_join PageCell (chain_cells o.chain 0) (all_cells os) (chain_pages o.chain 0 h.0.slots) (all_pages b os h.1)

found_page : (xs : List Cell) (k : ℕ) (d : Page) → Each PageCell xs → a_page d ≡ true → a_page (looked_up xs k d) ≡ true
unfolding Each looked_up
found_page [] k d h p = p
found_page (x ∷ xs) k d h p = go (eqb x.key k) (found_page xs k d h.1 p)
  where
    go : (t : Bool) → a_page (looked_up xs k d) ≡ true → a_page (pick t x.page (looked_up xs k d)) ≡ true
    go true ih = h.0
    go false ih = ih

rec_bytes : (b : ℕ) (os : List Owner) (i : ℕ) → Each (SoundOwner b) os → all_bytes (rec os i) ≡ true
unfolding Each rec person_record
rec_bytes b [] i h = bytes_zeros 128
rec_bytes b (o ∷ os) zero h = bytes_fields (fd 1 (length o.name) ∷ fd 8 o.next ∷ fd 4 (head_or o.chain 0) ∷ []) (pad 115 o.name) (bytes_pad 115 o.name h.0.bytes)
rec_bytes b (o ∷ os) (suc i) h = rec_bytes b os i h.1

row_bytes : (b : ℕ) (os : List Owner) (i m : ℕ) → Each (SoundOwner b) os → all_bytes (row os i m) ≡ true
unfolding row
row_bytes b os i zero h = refl
row_bytes b os i (suc m) h = bytes_append (rec os i) (row os (suc i) m) (rec_bytes b os i h) (row_bytes b os (suc i) m h)

row_length : (os : List Owner) (i m : ℕ) → length (row os i m) ≡ 128 * m
unfolding row
row_length os i zero = refl
row_length os i (suc m) = length-append (rec os i) (row os (suc i) m) ∙ omega (arith, length_rec os i, row_length os (suc i) m)

pub image_page : (n b : ℕ) (g : Ghost) (k : ℕ) → Sound n b g → a_page (image g k) ≡ true
unfolding image root_page
image_page n b g k sd = go (eqb k 0) (ltb k 65)
  where
    go : (t u : Bool) → a_page (pick t (root_page g) (pick u (row g.owners (4 * (k - 1)) 4) (looked_up (all_cells g.owners) k (zeros 512)))) ≡ true
    go true u =
        is_page _ (length_fields (fd 8 (length g.owners) ∷ fd 8 (weight (plain g)) ∷ fd 8 g.cursor ∷ []) _ ∙ omega (arith, length_pad 488 (flat zone_bytes g.zones)))
        (bytes_fields (fd 8 (length g.owners) ∷ fd 8 (weight (plain g)) ∷ fd 8 g.cursor ∷ []) _ (bytes_pad 488 _ (bytes_flat zone_bytes g.zones (λ z. bytes_fields _ [] refl))))
    go false true = is_page _ (row_length g.owners (4 * (k - 1)) 4) (row_bytes b g.owners (4 * (k - 1)) 4 sd.owners_sound)
    go false false = found_page (all_cells g.owners) k (zeros 512) (all_pages b g.owners sd.owners_sound) zeros_page

-- a batch whose addresses are apart and inside, and after which a house is held, is fine
pub fine_from : (n b : ℕ) (ps : List Page) (batch : List Cell) (w : Plain) → Holds n b (written ps batch) w → ((k : ℕ) → 1 ≤ tk batch k → k < length ps) → ((k : ℕ) → tk batch k ≤ 1) → length batch ≤ 29 → Fine ps batch
fine_from n b ps batch w h inside apart few =
    record {
      pages_ok = λ k l.
          rw (looked_up_present batch k [] (page_at ps k) l ∙ sym (written_at ps batch k (inside k l)) ∙ h.shown k (rw (length_written ps batch) (inside k l)))
          (image_page n b h.ghost k h.sound);
      inside = inside;
      apart = apart;
      few = few;
    }

-- THE NEW HOUSE
abbrev pub new_ghost : Ghost
new_ghost = record { zones = so_many 16 no_zone; owners = []; cursor = 0 }

new_image : (k : ℕ) → image new_ghost k ≡ zeros 512
unfolding image root_page zeros row rec all_cells looked_up fields in_bytes so_many pad
new_image k = go (eqb k 0) (ltb k 65)
  where
    go : (t u : Bool) → pick t (root_page new_ghost) (pick u (row [] (4 * (k - 1)) 4) (looked_up (all_cells []) k (zeros 512))) ≡ zeros 512
    go true u = refl
    go false true = refl
    go false false = refl

pub new_holds : (n b : ℕ) → 256 ≤ n → n ≤ 1048576 → Holds n b (blank (n - 59)) (record { zones = so_many 16 no_zone; people = [] })
unfolding Each all_cells keys times
new_holds n b hn ht =
    record {
      ghost = new_ghost;
      is = refl;
      sound = record { size = hn; top = ht; owners_sound = tt; few = zero-le; once = λ k. zero-le; range = λ k l. let no : ⊥ = omega arith in absurd no; light = zero-le; cursor_in = omega arith };
      size = length_blank (n - 59);
      shown = λ k l. blank_at (n - 59) k (rw (length_blank (n - 59)) at l) ∙ sym (new_image k);
    }

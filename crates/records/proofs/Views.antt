-- What is read of pages that hold a house; and what they hold after a batch.
use Rattle.std.proofs.Common.{◌≡◌, ℕ, suc, ◌-◌, ◌*◌, ◌/◌, ◌%◌, ◌<◌, ◌≤◌, Bool, true, false, eqb, ltb, List, [], ◌∷◌, ◌++◌, length, take, drop, sym, refl, ap, ◌∙◌, ap₂, arith, lit<}
use Rattle.std.proofs.lemmas.Bool.{lt-ltb, le-ltb, ne_eqb, eqb-true, eqb-false, ltb-true, ltb-false}
use Rattle.std.proofs.lemmas.List.{take_at, take-append-le}
use Rattle.pages.specs.Lists.{pick, flat}
use Rattle.pages.specs.Device.{Page, page_at, zeros}
use Rattle.pages.specs.Fields.{at, fd, fields, pad}
use Rattle.pages.specs.Cells.{Cell, looked_up, written}
use Rattle.pages.proofs.Fields.{field_back, drop_fields, fields_append, length_pad, take_pad}
use Rattle.pages.proofs.Cells.{tk, looked_append, looked_up_absent, present, absent, here, length_written, written_at}
use Rattle.records.specs.House.{weight}
use Rattle.records.specs.Layout.{Owner, Ghost, plain, head_or, all_cells, person_record, rec, row, root_page, zone_bytes, image}
use Rattle.records.specs.Does.{new_root, block, put_block, record_in, name_in, next_in, head_in, new_record, closing, count_in, weight_in, cursor_in}
use Rattle.records.proofs.Holds.{Sound, block_row, row_same, put_row}

-- A PERSON'S RECORD, with whatever after it
module _ (o : Owner) (z : List ℕ) where
  rec_is : person_record o ++ z ≡ fields (fd 1 (length o.name) ∷ fd 8 o.next ∷ fd 4 (head_or o.chain 0) ∷ []) (pad 115 o.name ++ z)
  unfolding person_record
  rec_is = fields_append _ (pad 115 o.name) z

  rec_long : length o.name ≤ 64 → at 0 1 (person_record o ++ z) ≡ length o.name
  rec_long h = ap (at 0 1) rec_is ∙ field_back (fd 1 (length o.name) ∷ fd 8 o.next ∷ fd 4 (head_or o.chain 0) ∷ []) (pad 115 o.name ++ z) 0 (omega arith)

  pub rec_next : o.next < 18446744073709551616 → next_in (person_record o ++ z) ≡ o.next
  rec_next h = ap next_in rec_is ∙ field_back (fd 1 (length o.name) ∷ fd 8 o.next ∷ fd 4 (head_or o.chain 0) ∷ []) (pad 115 o.name ++ z) 1 h

  pub rec_head : head_or o.chain 0 < 4294967296 → head_in (person_record o ++ z) ≡ head_or o.chain 0
  rec_head h = ap head_in rec_is ∙ field_back (fd 1 (length o.name) ∷ fd 8 o.next ∷ fd 4 (head_or o.chain 0) ∷ []) (pad 115 o.name ++ z) 2 h

  rec_rest : drop 13 (person_record o ++ z) ≡ pad 115 o.name ++ z
  rec_rest = ap (drop 13) rec_is ∙ drop_fields (fd 1 (length o.name) ∷ fd 8 o.next ∷ fd 4 (head_or o.chain 0) ∷ []) (pad 115 o.name ++ z)

  pub rec_name : length o.name ≤ 64 → name_in (person_record o ++ z) ≡ o.name
  rec_name h =
      ap₂ take (rec_long h) rec_rest ∙ take-append-le (length o.name) (pad 115 o.name) z (rw (length_pad 115 o.name) (omega arith))
      ∙ take_pad 115 (length o.name) o.name refl (omega arith)

  pub rec_new : (o₁ : Owner) → o₁.name ≡ o.name → length o.name ≤ 64 → new_record (person_record o ++ z) o₁.next (head_or o₁.chain 0) ≡ person_record o₁
  unfolding new_record person_record
  rec_new o₁ q h =
      ap₂ (λ l t. fields (fd 1 l ∷ fd 8 o₁.next ∷ fd 4 (head_or o₁.chain 0) ∷ []) t) (rec_long h ∙ ap length (sym q))
      (ap (take 115) rec_rest ∙ take_at (pad 115 o.name) z 115 (length_pad 115 o.name) ∙ ap (pad 115) (sym q))

-- PAGES THAT HOLD A HOUSE
module _ (n b : ℕ) (ps : List Page) (g : Ghost) (sd : Sound n b g) (sz : length ps ≡ n - 59) (sh : (k : ℕ) → k < length ps → page_at ps k ≡ image g k) where
  pub root_is : page_at ps 0 ≡ root_page g
  unfolding image
  root_is = let h = sd.size in sh 0 (omega arith)

  pub count_is : count_in ps ≡ length g.owners
  unfolding root_page
  count_is = ap (at 0 8) root_is ∙ field_back (fd 8 (length g.owners) ∷ fd 8 (weight (plain g)) ∷ fd 8 g.cursor ∷ []) (pad 488 (flat zone_bytes g.zones)) 0 (omega (arith, sd.few))

  pub weight_is : weight_in ps ≡ weight (plain g)
  unfolding root_page
  weight_is = ap (at 8 8) root_is ∙ field_back (fd 8 (length g.owners) ∷ fd 8 (weight (plain g)) ∷ fd 8 g.cursor ∷ []) (pad 488 (flat zone_bytes g.zones)) 1 (omega (arith, sd.light, sd.top))

  pub cursor_is : cursor_in ps ≡ g.cursor
  unfolding root_page
  cursor_is = ap (at 16 8) root_is ∙ field_back (fd 8 (length g.owners) ∷ fd 8 (weight (plain g)) ∷ fd 8 g.cursor ∷ []) (pad 488 (flat zone_bytes g.zones)) 2 (omega (arith, sd.cursor_in, sd.top))

  pub people_is : (j : ℕ) → j < 64 → page_at ps (suc j) ≡ row g.owners (4 * j) 4
  unfolding image
  people_is j h =
      let l = sd.size in
      sh (suc j) (omega arith) ∙ rw (ne_eqb (suc j) 0 (omega arith), lt-ltb (suc j) 65 (omega arith)) (ap (λ i. row g.owners (4 * i) 4) (omega arith))

  pub event_is : (k : ℕ) → 65 ≤ k → k < n - 59 → page_at ps k ≡ looked_up (all_cells g.owners) k (zeros 512)
  unfolding image
  event_is k h l = sh k (omega arith) ∙ rw (ne_eqb k 0 (omega arith), le-ltb k 65 h)

  pub record_is : (a : ℕ) → a < 256 → (z : List ℕ) × (record_in ps a ≡ rec g.owners a ++ z)
  record_is a h =
      let x = block_row g.owners (a % 4) 4 (4 * (a / 4)) (omega arith) in
      (x.0, ap (block (a % 4)) (people_is (a / 4) (omega arith)) ∙ x.1 ∙ ap (λ i. rec g.owners i ++ x.0) (omega arith))

  -- THE EDIT: one person's record, the events by eb, the root
  module _ (g₁ : Ghost) (a : ℕ) (eb : List Cell) (r : List ℕ) (zs : g₁.zones ≡ g.zones) (la : a < 256)
      (here_is : rec g₁.owners a ≡ r) (others : (i : ℕ) → ¬ (i ≡ a) → rec g₁.owners i ≡ rec g.owners i)
      (far : (k : ℕ) → 1 ≤ tk eb k → 65 ≤ k)
      (events : (k : ℕ) → looked_up eb k (looked_up (all_cells g.owners) k (zeros 512)) ≡ looked_up (all_cells g₁.owners) k (zeros 512)) where
    near : (k : ℕ) (d : Page) → k < 65 → looked_up eb k d ≡ d
    near k d l = looked_up_absent eb k d (elim (here eb k) [ present p ↦ let z = far k p in omega arith | absent z ↦ z ])

    root_new : new_root (page_at ps 0) (length g₁.owners) (weight (plain g₁)) g₁.cursor ≡ root_page g₁
    unfolding new_root root_page
    root_new =
        ap (fields (fd 8 (length g₁.owners) ∷ fd 8 (weight (plain g₁)) ∷ fd 8 g₁.cursor ∷ []))
        (ap (drop 24) root_is
        ∙ drop_fields (fd 8 (length g.owners) ∷ fd 8 (weight (plain g)) ∷ fd 8 g.cursor ∷ []) (pad 488 (flat zone_bytes g.zones))
        ∙ ap (λ z. pad 488 (flat zone_bytes z)) (sym zs))

    row_new : put_block (a % 4) r (page_at ps (suc (a / 4))) ≡ row g₁.owners (4 * (a / 4)) 4
    row_new =
        ap (put_block (a % 4) r) (people_is (a / 4) (omega arith))
        ∙ put_row g.owners g₁.owners r (a % 4) 4 (4 * (a / 4)) (omega arith) (ap (rec g₁.owners) (omega arith) ∙ here_is) (λ j q. others j (omega arith))

    abbrev last : List Cell
    last = closing ps a r (length g₁.owners) (weight (plain g₁)) g₁.cursor

    edit_at : (k : ℕ) → k < length ps → looked_up eb k (looked_up last k (page_at ps k)) ≡ image g₁ k
    unfolding looked_up image
    edit_at k l = zero_case (eqb k 0) refl
      where
        rows : (t : Bool) → eqb (suc (a / 4)) k ≡ t → ¬ (k ≡ 0) → k < 65 → looked_up last k (page_at ps k) ≡ row g₁.owners (4 * (k - 1)) 4
        rows true q nz u = let e = eqb-true (suc (a / 4)) k q in rw q (row_new ∙ ap (λ i. row g₁.owners (4 * i) 4) (omega arith))
        rows false q nz u =
            let e = eqb-false (suc (a / 4)) k q in
            rw (q, ne_eqb 0 k (λ z. nz (sym z)))
            (ap (page_at ps) (omega arith) ∙ people_is (k - 1) (omega arith) ∙ row_same g.owners g₁.owners 4 (4 * (k - 1)) (λ j m v. others j (omega arith)))

        low_case : (t : Bool) → ltb k 65 ≡ t → ¬ (k ≡ 0) → looked_up eb k (looked_up last k (page_at ps k)) ≡ pick t (row g₁.owners (4 * (k - 1)) 4) (looked_up (all_cells g₁.owners) k (zeros 512))
        low_case true q nz = near k _ (ltb-true k 65 q) ∙ rows (eqb (suc (a / 4)) k) refl nz (ltb-true k 65 q)
        low_case false q nz =
            let h = ltb-false k 65 q in
            ap (looked_up eb k) (rw (ne_eqb (suc (a / 4)) k (omega arith), ne_eqb 0 k (omega arith)) (event_is k h (omega arith))) ∙ events k

        zero_case : (t : Bool) → eqb k 0 ≡ t → looked_up eb k (looked_up last k (page_at ps k)) ≡ image g₁ k
        zero_case true q = let e = eqb-true k 0 q in rw (e, ne_eqb (suc (a / 4)) 0 (omega arith)) (near 0 _ (lit< tt) ∙ root_new)
        zero_case false q = rw q (low_case (ltb k 65) refl (eqb-false k 0 q))

    pub edit : (k : ℕ) → k < length (written ps (eb ++ last)) → page_at (written ps (eb ++ last)) k ≡ image g₁ k
    edit k l =
        let l₁ : k < length ps = rw (length_written ps (eb ++ last)) at l in
        written_at ps (eb ++ last) k l₁ ∙ looked_append eb last k (page_at ps k) ∙ edit_at k l₁

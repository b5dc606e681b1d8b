-- A person joins.
use Rattle.std.proofs.Common.{◌≡◌, ℕ, zero, suc, ◌+◌, ◌-◌, ◌*◌, ◌<◌, ◌≤◌, Bool, true, false, ◌&&◌, leb, List, [], ◌∷◌, ◌++◌, length, sym, refl, ap, ◌∙◌, subst, ap₂, inl, zero-le, arith, lit≤, length-append}
use Rattle.std.proofs.lemmas.Bool.{leb-true, leb-false, and_parts}
use Rattle.pages.specs.Lists.{each, any, same, or}
use Rattle.pages.specs.Device.{Page, page_at, zeros}
use Rattle.pages.specs.Cells.{Cell, looked_up, written, times, keys}
use Rattle.pages.specs.Bytes.{eight, all_bytes}
use Rattle.pages.proofs.Cells.{length_written}
use Rattle.recurrence.specs.Span.{days_from}
use Rattle.records.specs.House.{Plain, weight, yes, turn}
use Rattle.records.specs.Layout.{Owner, Ghost, person, plain, chain_cells, all_cells, person_record, rec, image}
use Rattle.records.specs.Does.{record_in, name_in, closing, count_in, refuse, accept, do_join, names_in, join_accepted, new_person}
use Rattle.records.specs.Promise.{TurnMay}
use Rattle.records.specs.Command.{join, fits}
use Rattle.records.proofs.Holds.{Each, Sound, SoundOwner, numbers_of, Holds, Result}
use Rattle.records.proofs.Chains.{owner_at, each_get, each_join, each_more, rec_at, people_many, people_weight}
use Rattle.records.proofs.Views.{count_is, weight_is, cursor_is, record_is, rec_name, edit}
use Rattle.records.proofs.Edits.{refused_so, no_room, owner_grows, closing_fine}

rec_last : (os : List Owner) (o : Owner) → rec (os ++ o ∷ []) (length os) ≡ person_record o
unfolding rec
rec_last [] o = refl
rec_last (x ∷ os) o = rec_last os o

rec_before : (os : List Owner) (o : Owner) (i : ℕ) → ¬ (i ≡ length os) → rec (os ++ o ∷ []) i ≡ rec os i
unfolding rec
rec_before [] o zero h = absurd (h refl)
rec_before [] o (suc i) h = refl
rec_before (x ∷ os) o zero h = refl
rec_before (x ∷ os) o (suc i) h = rec_before os o i (λ q. h (ap suc q))

cells_last : (os : List Owner) (o : Owner) → o.chain ≡ [] → all_cells (os ++ o ∷ []) ≡ all_cells os
unfolding all_cells chain_cells
cells_last [] o h = rw h
cells_last (x ∷ os) o h = ap (λ z. chain_cells x.chain 0 ++ z) (cells_last os o h)

people_last : (os : List Owner) (o : Owner) → each person (os ++ o ∷ []) ≡ each person os ++ person o ∷ []
people_last [] o = refl
people_last (x ∷ os) o = ap (λ z. person x ∷ z) (people_last os o)

weight_last : (os : List Owner) (nm : List ℕ) (x : ℕ) → people_weight (os ++ record { name = nm; next = x; chain = [] } ∷ []) ≡ people_weight os + 256
weight_last [] nm x = refl
weight_last (y ∷ os) nm x = let h = weight_last os nm x in omega arith

-- names, by number
names : (f : ℕ → List ℕ) (nm : List ℕ) (os : List Owner) (i : ℕ) → ((j : ℕ) → j < length os → f (i + j) ≡ (owner_at os j).name) →
    any (λ a. same (f a) nm) (days_from i (length os)) ≡ any (λ p. same p.name nm) (each person os)
unfolding days_from
names f nm [] i h = refl
names f nm (o ∷ os) i h =
    let e : f i ≡ o.name = ap f (omega arith) ∙ h 0 (omega arith) in
    ap₂ or (ap (λ z. same z nm) e) (names f nm os (suc i) (λ j l. ap f (omega arith) ∙ h (suc j) (omega arith)))

module _ (n b : ℕ) (ps : List Page) (g : Ghost) (sd : Sound n b g) (sz : length ps ≡ n - 59) (sh : (k : ℕ) → k < length ps → page_at ps k ≡ image g k) (nm : List ℕ) (short : length nm ≤ 64) (byt : all_bytes nm ≡ true) where
  abbrev held : Holds n b ps (plain g)
  held = record { ghost = g; is = refl; sound = sd; size = sz; shown = sh }

  abbrev taken : Bool
  taken = any (λ p. same p.name nm) (each person g.owners)

  taken_is : names_in ps (count_in ps) nm ≡ taken
  unfolding names_in
  taken_is =
      ap (λ c. names_in ps c nm) (count_is n b ps g sd sz sh)
      ∙ names (λ a. name_in (record_in ps a)) nm g.owners 0 (λ j l.
      let so = each_get (SoundOwner b) g.owners j sd.owners_sound l in
      let x = record_is n b ps g sd sz sh j (omega (arith, sd.few)) in
      ap (λ i. name_in (record_in ps i)) (omega arith) ∙ ap name_in (x.1 ∙ ap (λ r. r ++ x.0) (rec_at g.owners j l)) ∙ rec_name (owner_at g.owners j) x.0 so.short)

  abbrev o₁ : Owner
  o₁ = record { name = nm; next = 1; chain = [] }

  abbrev g₁ : Ghost
  g₁ = record { zones = g.zones; owners = g.owners ++ o₁ ∷ []; cursor = g.cursor }

  length_new : length g₁.owners ≡ suc (length g.owners)
  length_new = length-append g.owners (o₁ ∷ []) ∙ omega arith

  weight_new : weight (plain g₁) ≡ weight (plain g) + 256
  weight_new = weight_last g.owners nm 1

  abbrev new_batch : List Cell
  new_batch = closing ps (length g.owners) (person_record o₁) (length g₁.owners) (weight (plain g₁)) g₁.cursor

  join_holds : length g.owners < 256 → weight (plain g) + 256 ≤ 128 * n → Holds n (suc b) (written ps ([] ++ new_batch)) (plain g₁)
  unfolding Each looked_up numbers_of times keys
  join_holds few room =
      let cl : all_cells g₁.owners ≡ all_cells g.owners = cells_last g.owners o₁ refl in
      record {
        ghost = g₁;
        is = refl;
        sound = record {
          size = sd.size;
          top = sd.top;
          owners_sound = each_join (SoundOwner (suc b)) g.owners (o₁ ∷ []) (each_more (SoundOwner b) (SoundOwner (suc b)) (owner_grows b) g.owners sd.owners_sound)
              (record { slots = tt; once = λ k. zero-le; below = λ k l. let no : ⊥ = omega arith in absurd no; small = omega arith; short = short; bytes = byt }, tt);
          few = rw length_new (omega arith);
          once = rw cl sd.once;
          range = rw cl sd.range;
          light = rw weight_new room;
          cursor_in = sd.cursor_in;
        };
        size = length_written ps _ ∙ sz;
        shown = edit n b ps g sd sz sh g₁ (length g.owners) [] (person_record o₁) refl few (rec_last g.owners o₁) (rec_before g.owners o₁)
            (λ k l. let no : ⊥ = omega arith in absurd no) (λ k. ap (λ c. looked_up c k (zeros 512)) (sym cl));
      }

  turn_yes : taken ≡ false → leb 256 (length g.owners) ≡ false → turn (plain g) (join nm) ≡ yes (eight (length g.owners) ∷ []) (plain g₁)
  unfolding turn
  turn_yes p q = rw (p, people_many g.owners, q, people_last g.owners o₁)

  do_yes : taken ≡ false → leb 256 (length g.owners) ≡ false → leb (weight (plain g) + 256) (128 * n) ≡ true → do_join n ps nm ≡ accept (eight (length g.owners) ∷ []) new_batch
  unfolding do_join join_accepted new_person person_record
  do_yes p q r =
      rw (taken_is, p, count_is n b ps g sd sz sh, q, weight_is n b ps g sd sz sh, r, cursor_is n b ps g sd sz sh)
      (ap₂ (λ c w. accept (eight (length g.owners) ∷ []) (closing ps (length g.owners) (person_record o₁) c w g.cursor)) (sym length_new) (sym weight_new))

  join_1 : (t u v : Bool) → taken ≡ t → leb 256 (length g.owners) ≡ u → leb (weight (plain g) + 256) (128 * n) ≡ v →
      Result n (suc b) ps (plain g) (turn (plain g) (join nm)) (do_join n ps nm)
  unfolding turn do_join TurnMay keys times
  join_1 true u v p q r = rw (taken_is, p) (refused_so n b 4 ps (plain g) held)
  join_1 false true v p q r = rw (taken_is, p, people_many g.owners, count_is n b ps g sd sz sh, q) (refused_so n b 7 ps (plain g) held)
  join_1 false false true p q r =
      rw (turn_yes p q, do_yes p q r) (record {
        after = plain g₁;
        may = inl (refl, refl, refl);
        holds = join_holds (leb-false 256 _ q) (leb-true _ _ r);
        fine = closing_fine n ps sz sd.size (length g.owners) (leb-false 256 _ q) [] (λ k l. let no : ⊥ = omega arith in absurd no) (λ k. zero-le) (lit≤ tt) _ _ _ _ (suc b) (plain g₁) (join_holds (leb-false 256 _ q) (leb-true _ _ r));
      })
  join_1 false false false p q r =
      let l = leb-false (weight (plain g) + 256) (128 * n) r in
      let d : do_join n ps nm ≡ refuse 8 = rw (taken_is, p, count_is n b ps g sd sz sh, q, weight_is n b ps g sd sz sh, r) in
      rw (turn_yes p q, d) (no_room n b ps (plain g) _ (plain g₁) held (omega (arith, weight_new)) (omega (arith, weight_new)))

-- JOIN is the plain house's
pub join_right : (n b : ℕ) (ps : List Page) (w : Plain) (nm : List ℕ) → Holds n b ps w → b < 18446744073709551615 → fits (join nm) ≡ true →
    Result n (suc b) ps w (turn w (join nm)) (do_join n ps nm)
unfolding fits
join_right n b ps w nm h hb f =
    let p = and_parts (leb 1 (length nm) && leb (length nm) 64) (all_bytes nm) f in
    let short = leb-true (length nm) 64 (and_parts (leb 1 (length nm)) (leb (length nm) 64) p.0).1 in
    subst (λ v. Result n (suc b) ps v (turn v (join nm)) (do_join n ps nm)) h.is
    (join_1 n b ps h.ghost h.sound h.size h.shown nm short p.1 _ _ _ refl refl refl)

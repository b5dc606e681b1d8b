-- An event is dropped.
use Rattle.std.proofs.Common.{◌≡◌, ℕ, suc, ◌+◌, ◌-◌, ◌*◌, ◌<◌, ◌≤◌, Bool, true, false, not, eqb, ltb, ◌⊎◌, List, [], ◌∷◌, ◌++◌, length, take, drop, set, sym, refl, ap, ◌∙◌, subst, ap₂, inl, inr, append_assoc, zero-le, arith}
use Rattle.std.proofs.lemmas.Bool.{ne_eqb, ltb-true}
use Rattle.pages.specs.Lists.{those}
use Rattle.pages.specs.Bytes.{in_bytes}
use Rattle.pages.specs.Device.{Page, page_at, zeros}
use Rattle.pages.specs.Fields.{fields}
use Rattle.pages.specs.Cells.{Cell, cell, looked_up, times, keys}
use Rattle.pages.proofs.Cells.{tk, tk_append, looked_append, looked_up_absent, zero_or, bit_small}
use Rattle.records.specs.House.{Plain, weight, no, yes, turn, event_weight}
use Rattle.records.specs.Layout.{Slot, Owner, Ghost, entries_of, plain, first_page, further_cells, slot_cells, head_or, chain_cells, all_cells, image, body}
use Rattle.records.specs.Does.{record_in, new_record, closing, refuse, accept, blanks, do_drop, drop_found, drop_accepted, relink}
use Rattle.records.specs.Promise.{TurnMay}
use Rattle.records.specs.Command.{drop_event}
use Rattle.records.proofs.Holds.{Each, Sound, SoundOwner, numbers_of, Holds, Result}
use Rattle.records.proofs.Chains.{owner_at, cells_at, cells_set, chain_append, people_set, people_at, people_many, weight_set, weight_at, slot_keys, length_keys, further_keys}
use Rattle.records.proofs.Views.{count_is, weight_is, cursor_is, rec_new}
use Rattle.records.proofs.Readings.{reading}
use Rattle.records.proofs.Find.{SeenSlot, Where, nowhere, there, look, last_or}
use Rattle.records.proofs.Entries.{entry_none, dropped_there, blank_keys, blank_found, over, chain_all_seen, spot_none}
use Rattle.records.proofs.Edits.{refused_so, with_owner, Done, edited, owner_grows}
use Rattle.records.proofs.There.{There, it_is, with_chain, regroup, seen_there}
use Rattle.records.proofs.Bounds.{event_sizes}

-- the link of a first page is changed
pub relink_is : (l m : ℕ) (s : Slot) → relink l (first_page m s) ≡ first_page l s
unfolding relink first_page fields in_bytes
relink_is l m s = refl

-- the last of what comes before
data Back (cs : List Slot) : Type 0 where
  first : cs ≡ [] → Back cs
  after : (ds : List Slot) (p : Slot) → cs ≡ ds ++ p ∷ [] → Back cs

back : (cs : List Slot) → Back cs
back [] = first refl
back (c ∷ cs) = go (back cs)
  where
    go : Back cs → Back (c ∷ cs)
    go (first e) = after [] c (ap (λ z. c ∷ z) e)
    go (after ds p e) = after (c ∷ ds) p (ap (λ z. c ∷ z) e)

last_is : (ds : List Slot) (p : Slot) (b : ℕ) → last_or (ds ++ p ∷ []) b ≡ p.place
last_is [] p b = refl
last_is (d ∷ ds) p b = last_is ds p d.place

head_either : (ds : List Slot) (p : Slot) (ss ts : List Slot) → head_or (ds ++ p ∷ ss) 0 ≡ head_or (ds ++ p ∷ ts) 0
head_either [] p ss ts = refl
head_either (d ∷ ds) p ss ts = refl

-- relinked, blanked: p stays, s goes
gone : (p s : Slot) (l m k : ℕ) → times (p.place ∷ p.more) k + times (s.place ∷ s.more) k ≤ 1 →
    looked_up (cell p.place (first_page l p) ∷ blanks (s.place ∷ s.more)) k (looked_up (slot_cells m p ++ slot_cells l s) k (zeros 512)) ≡ looked_up (slot_cells l p) k (zeros 512)
unfolding looked_up times
gone p s l m k h = go (eqb p.place k) refl
  where
    F : List Cell
    F = further_cells p.more (drop 384 (body p.event))

    tF : tk F k ≡ times p.more k
    tF = ap (λ z. times z k) (further_keys p.more _)

    tS : tk (slot_cells l s) k ≡ times (s.place ∷ s.more) k
    tS = ap (λ z. times z k) (slot_keys l s)

    tB : tk (blanks (s.place ∷ s.more)) k ≡ times (s.place ∷ s.more) k
    tB = ap (λ z. times z k) (blank_keys (s.place ∷ s.more))

    rest : (times (s.place ∷ s.more) k ≡ 0) ⊎ (1 ≤ times (s.place ∷ s.more) k) →
        looked_up (blanks (s.place ∷ s.more)) k (looked_up (F ++ slot_cells l s) k (zeros 512)) ≡ looked_up F k (zeros 512)
    rest (inl z) = looked_up_absent (blanks (s.place ∷ s.more)) k _ (tB ∙ z) ∙ looked_append F (slot_cells l s) k (zeros 512) ∙ ap (looked_up F k) (looked_up_absent (slot_cells l s) k _ (tS ∙ z))
    rest (inr y) = blank_found (s.place ∷ s.more) k _ y ∙ sym (looked_up_absent F k (zeros 512) (omega (arith, tF)))

    go : (t : Bool) → eqb p.place k ≡ t →
        looked_up (cell p.place (first_page l p) ∷ blanks (s.place ∷ s.more)) k (looked_up (slot_cells m p ++ slot_cells l s) k (zeros 512)) ≡ looked_up (slot_cells l p) k (zeros 512)
    go true q = rw q
    go false q = rw q (rest (zero_or (times (s.place ∷ s.more) k)))

module _ (n b : ℕ) (ps : List Page) (g : Ghost) (sd : Sound n b g) (sz : length ps ≡ n - 59) (sh : (k : ℕ) → k < length ps → page_at ps k ≡ image g k) (hb : b < 18446744073709551615)
    (a num : ℕ) where
  abbrev held : Holds n b ps (plain g)
  held = record { ghost = g; is = refl; sound = sd; size = sz; shown = sh }

  module _ (q : ltb a (length g.owners) ≡ true) where
    abbrev la : a < length g.owners
    la = ltb-true a (length g.owners) q

    abbrev o : Owner
    o = owner_at g.owners a

    -- there is no such event
    module _ (z : times (numbers_of o.chain) num ≡ 0) where
      turn_none : turn (plain g) (drop_event a num) ≡ no 3 (plain g)
      unfolding turn
      turn_none = rw (people_many g.owners, q, people_at g.owners a, entry_none o.chain num z)

      do_none : do_drop ps a num ≡ refuse 3
      unfolding do_drop
      do_none = rw (count_is n b ps g sd sz sh, q, spot_none n b ps g sd sz sh hb a num la z)

    -- there is
    module _ (cs : List Slot) (s : Slot) (ss : List Slot) (ch : o.chain ≡ cs ++ s ∷ ss) (zc : times (numbers_of cs) num ≡ 0) (is : s.number ≡ num) where
      abbrev o₁ : Owner
      o₁ = with_chain o (cs ++ ss)

      abbrev g₁ : Ghost
      g₁ = with_owner g a o₁ g.cursor

      abbrev w₁ : ℕ
      w₁ = weight (plain g) - event_weight s.event

      it : There n b ps g a num cs s ss
      it = it_is n b ps g sd sz sh hb a num la cs s ss ch zc is

      turn_yes : turn (plain g) (drop_event a num) ≡ yes [] (plain g₁)
      unfolding turn
      turn_yes =
          let r = ap (λ c. those (λ x. not (eqb x.number num)) (entries_of c)) ch ∙ dropped_there cs s ss num zc it.rest_free is in
          rw (people_many g.owners, q, people_at g.owners a, it.entry_is, r, people_set g.owners a o₁)

      weight_new : weight (plain g₁) ≡ w₁
      weight_new =
          let h = weight_set g.owners a o₁ la in
          let k = it.weights in
          omega (arith, weight_at g.owners a)

      do_spot : do_drop ps a num ≡ drop_found ps a (last_or cs 0) s.place
      unfolding do_drop
      do_spot = rw (count_is n b ps g sd sz sh, q, it.spot_is, it.some)

      do_read : drop_found ps a (last_or cs 0) s.place ≡ drop_accepted ps a (last_or cs 0) s.place (head_or ss 0) s.more (record_in ps a) o.next (head_or o.chain 0) (length g.owners) w₁ g.cursor
      unfolding drop_found
      do_read =
          let rd = reading n b ps g sd sz sh hb a la in
          rw (it.seen.weight_so, weight_is n b ps g sd sz sh, it.seen.link_so, it.seen.more_so, cursor_is n b ps g sd sz sh, rd.next_so, rd.head_so, count_is n b ps g sd sz sh)

      owner_so : SoundOwner (suc b) o₁
      owner_so = owner_grows b o₁ it.without

      blanks_few : length (blanks (s.place ∷ s.more)) ≤ 23
      unfolding Each
      blanks_few =
          let ok = it.slot_so in
          omega (arith, ap length (blank_keys (s.place ∷ s.more)), length_keys (blanks (s.place ∷ s.more)), ok.count, event_sizes s.event ok.fits)

      light_so : weight (plain g₁) ≤ 128 * n
      light_so = omega (arith, weight_new, sd.light)

      abbrev A : List Cell
      A = all_cells (take a g.owners)

      abbrev R : List Cell
      R = all_cells (drop (suc a) g.owners)

      abbrev post : List Cell
      post = chain_cells ss 0 ++ R

      -- the first of its chain
      module _ (e : cs ≡ []) where
        was_first : all_cells g.owners ≡ A ++ (slot_cells (head_or ss 0) s ++ post)
        unfolding chain_cells
        was_first = cells_at g.owners a la ∙ ap (λ c. A ++ (chain_cells c 0 ++ R)) (ch ∙ ap (λ c. c ++ s ∷ ss) e) ∙ ap (λ z. A ++ z) (append_assoc (slot_cells (head_or ss 0) s) (chain_cells ss 0) R)

        do_first : drop_accepted ps a (last_or cs 0) s.place (head_or ss 0) s.more (record_in ps a) o.next (head_or o.chain 0) (length g.owners) w₁ g.cursor
            ≡ accept [] (blanks (s.place ∷ s.more) ++ closing ps a (new_record (record_in ps a) o.next (head_or ss 0)) (length g.owners) w₁ g.cursor)
        unfolding drop_accepted
        do_first = rw e

        first_done : Done n (suc b) ps (blanks (s.place ∷ s.more) ++ closing ps a (new_record (record_in ps a) o.next (head_or ss 0)) (length g.owners) w₁ g.cursor) (plain g₁)
        unfolding looked_up keys times
        first_done =
            let rd = reading n b ps g sd sz sh hb a la in
            edited n b ps g sd sz sh a la o₁ g.cursor sd.cursor_in owner_so light_so
            A (slot_cells (head_or ss 0) s) [] post (blanks (s.place ∷ s.more)) was_first
            (cells_set g.owners a o₁ la ∙ ap (λ c. A ++ (chain_cells (c ++ ss) 0 ++ R)) e) (omega (arith, blanks_few))
            (λ k.
            let t₀ = ap (λ z. times z k) (slot_keys (head_or ss 0) s) in
            let t₁ = ap (λ z. times z k) (blank_keys (s.place ∷ s.more)) in
            let t₂ = ap (λ c. tk c k) was_first ∙ tk_append A (slot_cells (head_or ss 0) s ++ post) k in
            let t₃ = tk_append (slot_cells (head_or ss 0) s) post k in
            let one = sd.once k in
            record {
              once = zero-le;
              apart = λ l. let no : ⊥ = omega arith in absurd no;
              range = λ l. let no : ⊥ = omega arith in absurd no;
              far = λ l. (omega arith, sd.range k (omega arith));
              eb_once = omega arith;
              local = over [] (slot_cells (head_or ss 0) s) (s.place ∷ s.more) k (omega arith);
            })
            _ _ _ (ap₂ (λ r h. new_record r o.next h) rd.record_so (ap (λ c. head_or (c ++ ss) 0) (sym e)) ∙ rec_new o rd.rest o₁ refl it.so.short) refl (sym weight_new)

      -- or behind another
      module _ (ds : List Slot) (p : Slot) (e : cs ≡ ds ++ p ∷ []) where
        abbrev l : ℕ
        l = head_or ss 0

        ch₁ : o.chain ≡ ds ++ p ∷ s ∷ ss
        ch₁ = ch ∙ ap (λ c. c ++ s ∷ ss) e ∙ append_assoc ds (p ∷ []) (s ∷ ss)

        ch₂ : cs ++ ss ≡ ds ++ p ∷ ss
        ch₂ = ap (λ c. c ++ ss) e ∙ append_assoc ds (p ∷ []) ss

        seen_p : SeenSlot ps n s.place p
        seen_p = seen_there ps n ds p (s ∷ ss) (rw ch₁ at (chain_all_seen n b ps g sd sz sh hb a num la))

        abbrev pre : List Cell
        pre = A ++ chain_cells ds p.place

        abbrev old : List Cell
        old = slot_cells s.place p ++ slot_cells l s

        abbrev eb : List Cell
        eb = cell p.place (first_page l p) ∷ blanks (s.place ∷ s.more)

        was_after : all_cells g.owners ≡ pre ++ (old ++ post)
        unfolding chain_cells
        was_after =
            cells_at g.owners a la ∙ ap (λ c. A ++ (c ++ R)) (ap (λ c. chain_cells c 0) ch₁ ∙ chain_append ds (p ∷ s ∷ ss) 0)
            ∙ regroup A (chain_cells ds p.place) (slot_cells s.place p) (slot_cells l s ++ chain_cells ss 0) R
            ∙ ap (λ z. pre ++ z) (ap (λ z. slot_cells s.place p ++ z) (append_assoc (slot_cells l s) (chain_cells ss 0) R) ∙ sym (append_assoc (slot_cells s.place p) (slot_cells l s) post))

        now_after : all_cells (set g.owners a o₁) ≡ pre ++ (slot_cells l p ++ post)
        unfolding chain_cells
        now_after =
            cells_set g.owners a o₁ la ∙ ap (λ c. A ++ (c ++ R)) (ap (λ c. chain_cells c 0) ch₂ ∙ chain_append ds (p ∷ ss) 0)
            ∙ regroup A (chain_cells ds p.place) (slot_cells l p) (chain_cells ss 0) R

        do_after : drop_accepted ps a (last_or cs 0) s.place l s.more (record_in ps a) o.next (head_or o.chain 0) (length g.owners) w₁ g.cursor
            ≡ accept [] (eb ++ closing ps a (new_record (record_in ps a) o.next (head_or o.chain 0)) (length g.owners) w₁ g.cursor)
        unfolding drop_accepted
        do_after = rw (e, last_is ds p 0, ne_eqb p.place 0 (omega (arith, seen_p.low)), seen_p.page_so, relink_is l s.place p)

        after_done : Done n (suc b) ps (eb ++ closing ps a (new_record (record_in ps a) o.next (head_or o.chain 0)) (length g.owners) w₁ g.cursor) (plain g₁)
        unfolding keys times
        after_done =
            let rd = reading n b ps g sd sz sh hb a la in
            edited n b ps g sd sz sh a la o₁ g.cursor sd.cursor_in owner_so light_so
            pre old (slot_cells l p) post eb was_after now_after (omega (arith, blanks_few))
            (λ k.
            let t₀ = ap (λ z. times z k) (slot_keys l s) in
            let t₁ = ap (λ z. times z k) (slot_keys s.place p) in
            let t₂ = ap (λ z. times z k) (slot_keys l p) in
            let t₃ = ap (λ z. times z k) (blank_keys (s.place ∷ s.more)) in
            let t₄ = ap (λ c. tk c k) was_after ∙ tk_append pre (old ++ post) k in
            let t₅ = tk_append old post k in
            let t₆ = tk_append (slot_cells s.place p) (slot_cells l s) k in
            let one = sd.once k in
            record {
              once = omega arith;
              apart = λ v. omega arith;
              range = λ v. sd.range k (omega arith);
              far = λ v. (omega arith, sd.range k (omega arith));
              eb_once = omega (arith, bit_small (eqb p.place k));
              local = gone p s l s.place k (omega arith);
            })
            _ _ _ (ap₂ (λ r h. new_record r o.next h) rd.record_so (ap (λ c. head_or c 0) ch₁ ∙ head_either ds p (s ∷ ss) ss ∙ ap (λ c. head_or c 0) (sym ch₂)) ∙ rec_new o rd.rest o₁ refl it.so.short) refl (sym weight_new)

      drop_there : Back cs → Result n (suc b) ps (plain g) (turn (plain g) (drop_event a num)) (do_drop ps a num)
      unfolding TurnMay
      drop_there (first e) = rw (turn_yes, do_spot ∙ do_read ∙ do_first e) (record { after = plain g₁; may = inl (refl, refl, refl); holds = (first_done e).holds; fine = (first_done e).fine })
      drop_there (after ds p e) = rw (turn_yes, do_spot ∙ do_read ∙ do_after ds p e) (record { after = plain g₁; may = inl (refl, refl, refl); holds = (after_done ds p e).holds; fine = (after_done ds p e).fine })

    drop_any : Where o.chain num → Result n (suc b) ps (plain g) (turn (plain g) (drop_event a num)) (do_drop ps a num)
    drop_any (nowhere z) = rw (turn_none z, do_none z) (refused_so n b 3 ps (plain g) held)
    drop_any (there cs s ss ch zc is) = drop_there cs s ss ch zc is (back cs)

  drop_all : (t : Bool) → ltb a (length g.owners) ≡ t → Result n (suc b) ps (plain g) (turn (plain g) (drop_event a num)) (do_drop ps a num)
  unfolding turn do_drop
  drop_all true q = drop_any q (look (owner_at g.owners a).chain num)
  drop_all false q = rw (people_many g.owners, q, count_is n b ps g sd sz sh, q) (refused_so n b 3 ps (plain g) held)

-- DROP is the plain house's
pub drop_right : (n b : ℕ) (ps : List Page) (w : Plain) (a num : ℕ) → Holds n b ps w → b < 18446744073709551615 →
    Result n (suc b) ps w (turn w (drop_event a num)) (do_drop ps a num)
drop_right n b ps w a num h hb =
    subst (λ v. Result n (suc b) ps v (turn v (drop_event a num)) (do_drop ps a num)) h.is
    (drop_all n b ps h.ghost h.sound h.size h.shown hb a num (ltb a (length h.ghost.owners)) refl)

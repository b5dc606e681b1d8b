-- An event is put.
use Rattle.std.proofs.Common.{◌≡◌, ℕ, suc, ◌+◌, ◌-◌, ◌*◌, ◌<◌, ◌≤◌, Bool, true, false, eqb, ltb, leb, List, [], ◌∷◌, ◌++◌, length, get_or, take, drop, sym, refl, ap, ◌∙◌, subst, inl, inr, append_assoc, arith, length-drop}
use Rattle.std.proofs.lemmas.Bool.{eq-eqb, eqb-true, ltb-true, leb-true, leb-false}
use Rattle.pages.specs.Device.{Page, page_at}
use Rattle.pages.specs.Cells.{looked_up, times}
use Rattle.pages.specs.Lists.{bit}
use Rattle.pages.specs.Bytes.{eight}
use Rattle.pages.proofs.Cells.{tk, tk_append, zero_or}
use Rattle.recurrence.specs.Event.{an_event, Event}
use Rattle.records.specs.House.{Plain, weight, no, yes, turn, event_weight}
use Rattle.records.specs.Layout.{Slot, Owner, Ghost, entry, entries_of, plain, slot_cells, head_or, chain_cells, all_cells, image, further}
use Rattle.records.specs.Does.{record_in, new_record, closing, refuse, accept, free_pages, do_put, put_accepted, event_length}
use Rattle.records.specs.Promise.{TurnMay}
use Rattle.records.specs.Command.{put}
use Rattle.records.proofs.Holds.{Each, Sound, SoundOwner, numbers_of, Holds, Result}
use Rattle.records.proofs.Chains.{owner_at, each_get, cells_set, cells_at, people_set, people_at, people_many, weight_set, weights_append, all_light, slot_light, slot_keys, length_keys}
use Rattle.records.proofs.Views.{count_is, weight_is, cursor_is, rec_new}
use Rattle.records.proofs.Edits.{refused_so, no_room, with_owner, Done, edited}
use Rattle.records.proofs.Room.{Free, free_right}
use Rattle.records.proofs.Readings.{reading}
use Rattle.records.proofs.Bounds.{event_sizes}

uncons : (as₁ : List ℕ) (m : ℕ) → length as₁ ≡ suc m → get_or as₁ 0 0 ∷ drop 1 as₁ ≡ as₁
uncons [] m h = let no : ⊥ = omega arith in absurd no
uncons (a ∷ as₁) m h = refl

module _ (n b : ℕ) (ps : List Page) (g : Ghost) (sd : Sound n b g) (sz : length ps ≡ n - 59) (sh : (k : ℕ) → k < length ps → page_at ps k ≡ image g k) (hb : b < 18446744073709551615)
    (a : ℕ) (e : Event) (fit : an_event e ≡ true) where
  abbrev here_held : Holds n b ps (plain g)
  here_held = record { ghost = g; is = refl; sound = sd; size = sz; shown = sh }

  turn_no : ltb a (length g.owners) ≡ false → turn (plain g) (put a e) ≡ no 3 (plain g)
  unfolding turn
  turn_no q = rw (people_many g.owners, q)

  do_no : ltb a (length g.owners) ≡ false → do_put n ps a e ≡ refuse 3
  unfolding do_put
  do_no q = rw (count_is n b ps g sd sz sh, q)

  module _ (q : ltb a (length g.owners) ≡ true) where
    abbrev la : a < length g.owners
    la = ltb-true a (length g.owners) q

    abbrev o : Owner
    o = owner_at g.owners a

    abbrev as₁ : List ℕ
    as₁ = free_pages ps n g.cursor (suc (further (event_length e)))

    abbrev s : Slot
    s = record { number = o.next; event = e; place = get_or as₁ 0 0; more = drop 1 as₁ }

    abbrev o₁ : Owner
    o₁ = record { name = o.name; next = suc o.next; chain = s ∷ o.chain }

    abbrev c₁ : ℕ
    c₁ = get_or as₁ 0 0 - 65

    abbrev g₁ : Ghost
    g₁ = with_owner g a o₁ c₁

    weight_new : weight (plain g₁) ≡ weight (plain g) + event_weight e
    weight_new = let h = weight_set g.owners a o₁ la in let k = weights_append (entries_of o.chain) (entry s ∷ []) in omega arith

    turn_yes : turn (plain g) (put a e) ≡ yes (eight o.next ∷ []) (plain g₁)
    unfolding turn
    turn_yes = rw (people_many g.owners, q, people_at g.owners a, people_set g.owners a o₁)

    do_yes : leb (weight (plain g) + event_weight e) (128 * n) ≡ true →
        do_put n ps a e ≡ accept (eight o.next ∷ []) (slot_cells (head_or o.chain 0) s ++ closing ps a (new_record (record_in ps a) (suc o.next) (get_or as₁ 0 0)) (length g.owners) (weight (plain g) + event_weight e) c₁)
    unfolding do_put put_accepted
    do_yes r =
        let rd = reading n b ps g sd sz sh hb a la in
        rw (count_is n b ps g sd sz sh, q, weight_is n b ps g sd sz sh, r, cursor_is n b ps g sd sz sh, rd.next_so, rd.head_so)

    do_full : leb (weight (plain g) + event_weight e) (128 * n) ≡ false → do_put n ps a e ≡ refuse 8
    unfolding do_put
    do_full r = rw (count_is n b ps g sd sz sh, q, weight_is n b ps g sd sz sh, r)

    module _ (room : weight (plain g) + event_weight e ≤ 128 * n) where
      free : Free n (suc (further (event_length e))) (all_cells g.owners) as₁
      free =
          let l = all_light b g.owners sd.owners_sound in
          let v = slot_light (length e.title) (length e.left_out) in
          free_right n b ps g sd sz sh g.cursor (suc (further (event_length e))) sd.cursor_in (omega arith)

      whole : get_or as₁ 0 0 ∷ drop 1 as₁ ≡ as₁
      whole = uncons as₁ (further (event_length e)) free.many

      tk_new : (l k : ℕ) → tk (slot_cells l s) k ≡ times as₁ k
      tk_new l k = ap (λ z. times z k) (slot_keys l s ∙ whole)

      place_in : (65 ≤ get_or as₁ 0 0) × (get_or as₁ 0 0 < n - 59)
      unfolding times
      place_in =
          let h : 1 ≤ times (get_or as₁ 0 0 ∷ drop 1 as₁) (get_or as₁ 0 0) = rw (eq-eqb (get_or as₁ 0 0) (get_or as₁ 0 0) refl) (omega arith) in
          let k : 1 ≤ times as₁ (get_or as₁ 0 0) = subst (λ z. 1 ≤ times z (get_or as₁ 0 0)) whole h in
          let f = free.fresh (get_or as₁ 0 0) k in
          (f.1, f.2)

      owner_so : SoundOwner (suc b) o₁
      unfolding Each numbers_of times
      owner_so =
          let so = each_get (SoundOwner b) g.owners a sd.owners_sound la in
          record {
            slots = (record { fits = fit; count = let m = free.many in length-drop 1 as₁ ∙ omega arith }, so.slots);
            once = λ k. once_so so k (eqb o.next k) refl;
            below = λ k. below_so so k (eqb o.next k) refl;
            small = omega (arith, so.small);
            short = so.short;
            bytes = so.bytes;
          }
        where
          once_so : SoundOwner b o → (k : ℕ) (t : Bool) → eqb o.next k ≡ t → bit (eqb o.next k) + times (numbers_of o.chain) k ≤ 1
          once_so so k true r =
              let z = eqb-true o.next k r in
              rw r (elim (zero_or (times (numbers_of o.chain) k)) [ inl y ↦ omega arith | inr l ↦ let v = so.below k l in let no : ⊥ = omega arith in absurd no ])
          once_so so k false r = rw r (omega (arith, so.once k))

          below_so : SoundOwner b o → (k : ℕ) (t : Bool) → eqb o.next k ≡ t → 1 ≤ bit (eqb o.next k) + times (numbers_of o.chain) k → k < suc o.next
          below_so so k true r l = let z = eqb-true o.next k r in omega arith
          below_so so k false r l = let v = so.below k (omega (arith, rw r at l)) in omega arith

      few_so : length (slot_cells (head_or o.chain 0) s) ≤ 27
      few_so =
          let l = ap length (slot_keys (head_or o.chain 0) s ∙ whole) in
          omega (arith, length_keys (slot_cells (head_or o.chain 0) s), free.many, event_sizes e fit)

      put_done : Done n (suc b) ps (slot_cells (head_or o.chain 0) s ++ closing ps a (new_record (record_in ps a) (suc o.next) (get_or as₁ 0 0)) (length g.owners) (weight (plain g) + event_weight e) c₁) (plain g₁)
      unfolding chain_cells looked_up
      put_done =
          let so = each_get (SoundOwner b) g.owners a sd.owners_sound la in
          let rd = reading n b ps g sd sz sh hb a la in
          let pre = all_cells (take a g.owners) in
          let rest = all_cells (drop (suc a) g.owners) in
          let ch = chain_cells o.chain 0 in
          let new = slot_cells (head_or o.chain 0) s in
          let was : all_cells g.owners ≡ pre ++ (ch ++ rest) = cells_at g.owners a la in
          let apart : (k : ℕ) → tk pre k + tk (ch ++ rest) k ≡ tk (all_cells g.owners) k = λ k. sym (tk_append pre (ch ++ rest) k) ∙ ap (λ z. tk z k) (sym was) in
          edited n b ps g sd sz sh a la o₁ c₁ (omega (arith, place_in)) owner_so (rw weight_new room)
          pre [] new (ch ++ rest) new was
          (cells_set g.owners a o₁ la ∙ ap (λ z. pre ++ z) (append_assoc new ch rest))
          few_so
          (λ k. record {
            once = rw (tk_new (head_or o.chain 0) k) (free.once k);
            apart = λ l. apart k ∙ (free.fresh k (rw (tk_new (head_or o.chain 0) k) at l)).0;
            range = λ l. let f = free.fresh k (rw (tk_new (head_or o.chain 0) k) at l) in (f.1, f.2);
            far = λ l. let f = free.fresh k (rw (tk_new (head_or o.chain 0) k) at l) in (apart k ∙ f.0, (f.1, f.2));
            eb_once = rw (tk_new (head_or o.chain 0) k) (free.once k);
            local = refl;
          })
          _ _ _ (ap (λ z. new_record z (suc o.next) (get_or as₁ 0 0)) rd.record_so ∙ rec_new o rd.rest o₁ refl so.short) refl (sym weight_new)

    put_there : (t : Bool) → leb (weight (plain g) + event_weight e) (128 * n) ≡ t → Result n (suc b) ps (plain g) (turn (plain g) (put a e)) (do_put n ps a e)
    unfolding TurnMay
    put_there true r = rw (turn_yes, do_yes r) (record { after = plain g₁; may = inl (refl, refl, refl); holds = (put_done (leb-true _ _ r)).holds; fine = (put_done (leb-true _ _ r)).fine })
    put_there false r =
        let l = leb-false (weight (plain g) + event_weight e) (128 * n) r in
        rw (turn_yes, do_full r) (no_room n b ps (plain g) _ (plain g₁) here_held (omega (arith, weight_new)) (omega (arith, weight_new)))

  put_any : (t : Bool) → ltb a (length g.owners) ≡ t → Result n (suc b) ps (plain g) (turn (plain g) (put a e)) (do_put n ps a e)
  put_any true q = put_there q (leb (weight (plain g) + event_weight e) (128 * n)) refl
  put_any false q = rw (turn_no q, do_no q) (refused_so n b 3 ps (plain g) here_held)

-- PUT is the plain house's
pub put_right : (n b : ℕ) (ps : List Page) (w : Plain) (a : ℕ) (e : Event) → Holds n b ps w → b < 18446744073709551615 → an_event e ≡ true →
    Result n (suc b) ps w (turn w (put a e)) (do_put n ps a e)
put_right n b ps w a e h hb fit =
    subst (λ v. Result n (suc b) ps v (turn v (put a e)) (do_put n ps a e)) h.is
    (put_any n b ps h.ghost h.sound h.size h.shown hb a e fit (ltb a (length h.ghost.owners)) refl)

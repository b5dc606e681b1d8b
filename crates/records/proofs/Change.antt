-- An event is changed in place.
use Rattle.std.proofs.Common.{◌≡◌, ℕ, suc, ◌+◌, ◌-◌, ◌*◌, ◌<◌, ◌≤◌, Bool, true, false, ◌&&◌, eqb, ltb, List, [], ◌∷◌, ◌++◌, length, take, drop, set, sym, refl, ap, ◌∙◌, subst, ap₂, inl, inr, append-nil, arith, length-append, length-drop, take-append-drop, length-take}
use Rattle.std.proofs.lemmas.Bool.{ltb-true, ltb-false, and_parts, and_cases}
use Rattle.pages.specs.Lists.{each, bit}
use Rattle.pages.specs.Device.{Page, page_at}
use Rattle.pages.specs.Cells.{Cell, times, keys}
use Rattle.pages.proofs.Cells.{tk, tk_append, times_append, zero_or}
use Rattle.recurrence.specs.Event.{an_event, Event}
use Rattle.records.specs.House.{Plain, weight, no, yes, turn, changed, event_weight}
use Rattle.records.specs.Layout.{Slot, Owner, Ghost, entries_of, plain, slot_cells, head_or, chain_cells, all_cells, image, further}
use Rattle.records.specs.Does.{record_in, new_record, closing, refuse, accept, blanks, do_change, change_found, change_accepted, free_pages, event_length}
use Rattle.records.specs.Promise.{TurnMay}
use Rattle.records.specs.Command.{change}
use Rattle.records.proofs.Holds.{Each, Sound, SoundOwner, SoundSlot, numbers_of, Holds, Result}
use Rattle.records.proofs.Chains.{owner_at, each_set, each_join, each_front, each_back, cells_set, chain_append, people_set, people_at, people_many, weight_set, weight_at, all_light, keys_append, slot_keys, length_keys, slot_light}
use Rattle.records.proofs.Views.{count_is, weight_is, cursor_is, rec_new}
use Rattle.records.proofs.Readings.{reading}
use Rattle.records.proofs.Find.{Where, nowhere, there, look}
use Rattle.records.proofs.Entries.{numbers_append, entry_none, changed_there, weights_split, blank_keys, over, spot_none}
use Rattle.records.proofs.Edits.{refused_so, no_room, with_owner, Changes, Done, edited}
use Rattle.records.proofs.Room.{Free, free_right}
use Rattle.records.proofs.Bounds.{event_sizes}
use Rattle.records.proofs.There.{There, it_is, with_chain, regroup}

pub chain_keys : (cs : List Slot) (l m : ℕ) → keys (chain_cells cs l) ≡ keys (chain_cells cs m)
unfolding chain_cells
chain_keys [] l m = refl
chain_keys (c ∷ []) l m = rw (append-nil (slot_cells l c), append-nil (slot_cells m c)) (slot_keys l c ∙ sym (slot_keys m c))
chain_keys (c ∷ d ∷ cs) l m = keys_append (slot_cells d.place c) _ ∙ ap (λ z. keys (slot_cells d.place c) ++ z) (chain_keys (d ∷ cs) l m) ∙ sym (keys_append (slot_cells d.place c) _)

module _ (n b : ℕ) (ps : List Page) (g : Ghost) (sd : Sound n b g) (sz : length ps ≡ n - 59) (sh : (k : ℕ) → k < length ps → page_at ps k ≡ image g k) (hb : b < 18446744073709551615)
    (a num : ℕ) (e : Event) (fit : an_event e ≡ true) where
  abbrev held : Holds n b ps (plain g)
  held = record { ghost = g; is = refl; sound = sd; size = sz; shown = sh }

  module _ (q : ltb a (length g.owners) ≡ true) where
    abbrev la : a < length g.owners
    la = ltb-true a (length g.owners) q

    abbrev o : Owner
    o = owner_at g.owners a

    -- there is no such event
    module _ (z : times (numbers_of o.chain) num ≡ 0) where
      turn_none : turn (plain g) (change a num e) ≡ no 3 (plain g)
      unfolding turn
      turn_none = rw (people_many g.owners, q, people_at g.owners a, entry_none o.chain num z)

      do_none : do_change n ps a num e ≡ refuse 3
      unfolding do_change
      do_none = rw (count_is n b ps g sd sz sh, q, spot_none n b ps g sd sz sh hb a num la z)

    -- there is
    module _ (cs : List Slot) (s : Slot) (ss : List Slot) (ch : o.chain ≡ cs ++ s ∷ ss) (zc : times (numbers_of cs) num ≡ 0) (is : s.number ≡ num) where
      abbrev m : ℕ
      m = further (event_length e)

      abbrev new : List ℕ
      new = free_pages ps n g.cursor (m - length s.more)

      abbrev s₁ : Slot
      s₁ = record { number = num; event = e; place = s.place; more = take m s.more ++ new }

      abbrev o₁ : Owner
      o₁ = with_chain o (cs ++ s₁ ∷ ss)

      abbrev g₁ : Ghost
      g₁ = with_owner g a o₁ g.cursor

      abbrev w₁ : ℕ
      w₁ = weight (plain g) - event_weight s.event + event_weight e

      it : There n b ps g a num cs s ss
      it = it_is n b ps g sd sz sh hb a num la cs s ss ch zc is

      turn_yes : turn (plain g) (change a num e) ≡ yes [] (plain g₁)
      unfolding turn
      turn_yes =
          let r = ap (λ c. each (changed num e) (entries_of c)) ch ∙ changed_there cs s ss num zc it.rest_free is e s.place (take m s.more ++ new) in
          rw (people_many g.owners, q, people_at g.owners a, it.entry_is, r, people_set g.owners a o₁)

      do_spot : do_change n ps a num e ≡ change_found n ps a num e s.place
      unfolding do_change
      do_spot = rw (count_is n b ps g sd sz sh, q, it.spot_is, it.some)

      do_full : ltb (weight (plain g)) w₁ && ltb (128 * n) w₁ ≡ true → do_change n ps a num e ≡ refuse 8
      unfolding change_found
      do_full r = do_spot ∙ rw (it.seen.weight_so, weight_is n b ps g sd sz sh, r)

      abbrev eb : List Cell
      eb = slot_cells (head_or ss 0) s₁ ++ blanks (drop m s.more)

      do_yes : ltb (weight (plain g)) w₁ && ltb (128 * n) w₁ ≡ false →
          do_change n ps a num e ≡ accept [] (eb ++ closing ps a (new_record (record_in ps a) o.next (head_or o.chain 0)) (length g.owners) w₁ g.cursor)
      unfolding change_found change_accepted
      do_yes r =
          let rd = reading n b ps g sd sz sh hb a la in
          do_spot ∙ rw (it.seen.weight_so, weight_is n b ps g sd sz sh, r, it.seen.link_so, it.seen.more_so, cursor_is n b ps g sd sz sh, rd.next_so, rd.head_so, count_is n b ps g sd sz sh)

      weight_new : weight (plain g₁) ≡ w₁
      weight_new =
          let h = weight_set g.owners a o₁ la in
          let k = it.weights in
          let j = weights_split cs s₁ ss in
          omega (arith, weight_at g.owners a)

      -- cells
      abbrev pre : List Cell
      pre = all_cells (take a g.owners) ++ chain_cells cs s.place

      abbrev post : List Cell
      post = chain_cells ss 0 ++ all_cells (drop (suc a) g.owners)

      now_so : all_cells (set g.owners a o₁) ≡ pre ++ (slot_cells (head_or ss 0) s₁ ++ post)
      unfolding chain_cells
      now_so =
          cells_set g.owners a o₁ la ∙ ap (λ c. all_cells (take a g.owners) ++ (c ++ all_cells (drop (suc a) g.owners))) (chain_append cs (s₁ ∷ ss) 0)
          ∙ regroup (all_cells (take a g.owners)) (chain_cells cs s.place) (slot_cells (head_or ss 0) s₁) (chain_cells ss 0) (all_cells (drop (suc a) g.owners))

      -- the house without the event
      abbrev o₂ : Owner
      o₂ = with_chain o (cs ++ ss)

      without : length (keys (all_cells g.owners)) ≡ length (keys (all_cells (set g.owners a o₂))) + suc (length s.more)
      without =
          let A = all_cells (take a g.owners) in
          let R = all_cells (drop (suc a) g.owners) in
          let C = chain_cells ss 0 in
          let S = slot_cells (head_or ss 0) s in
          let i = ap (λ c. length (keys c)) it.was in
          let j = ap (λ c. length (keys c)) (cells_set g.owners a o₂ la ∙ ap (λ c. A ++ (c ++ R)) (chain_append cs ss 0)) in
          let k₁ = ap length (keys_append pre (S ++ post)) ∙ length-append (keys pre) (keys (S ++ post)) in
          let k₂ = ap length (keys_append S post) ∙ length-append (keys S) (keys post) in
          let k₃ = ap length (keys_append C R) ∙ length-append (keys C) (keys R) in
          let k₄ = ap length (keys_append A (chain_cells cs s.place)) ∙ length-append (keys A) (keys (chain_cells cs s.place)) in
          let k₅ = ap length (slot_keys (head_or ss 0) s) in
          let j₁ = ap length (keys_append A ((chain_cells cs (head_or ss 0) ++ C) ++ R)) ∙ length-append (keys A) (keys ((chain_cells cs (head_or ss 0) ++ C) ++ R)) in
          let j₂ = ap length (keys_append (chain_cells cs (head_or ss 0) ++ C) R) ∙ length-append (keys (chain_cells cs (head_or ss 0) ++ C)) (keys R) in
          let j₃ = ap length (keys_append (chain_cells cs (head_or ss 0)) C) ∙ length-append (keys (chain_cells cs (head_or ss 0))) (keys C) in
          let j₄ = ap length (chain_keys cs s.place (head_or ss 0)) in
          omega arith

      module _ (room : w₁ ≤ 128 * n) where
        free : Free n (m - length s.more) (all_cells g.owners) new
        free =
            let l = all_light b g.owners sd.owners_sound in
            let l₂ = all_light b (set g.owners a o₂) (each_set (SoundOwner b) g.owners a o₂ sd.owners_sound it.without) in
            let h = weight_set g.owners a o₂ la in
            let k = it.weights in
            let v = slot_light (length e.title) (length e.left_out) in
            let x = without in
            free_right n b ps g sd sz sh g.cursor (m - length s.more) sd.cursor_in (omega (arith, sd.light))

        owner_so_count : length (take m s.more ++ new) ≡ m
        owner_so_count = length-append (take m s.more) new ∙ omega (arith, length-take m s.more, free.many)

        old_few : length s.more ≤ 22
        unfolding Each
        old_few = let ok = it.slot_so in omega (arith, ok.count, event_sizes s.event ok.fits)

        owner_so : SoundOwner (suc b) o₁
        unfolding numbers_of times Each
        owner_so = record {
          slots = each_join SoundSlot cs (s₁ ∷ ss) (each_front SoundSlot cs (s ∷ ss) it.slots)
              (record { fits = fit; count = owner_so_count }, (each_back SoundSlot cs (s ∷ ss) it.slots).1);
          once = λ k. let h : times (numbers_of (cs ++ s ∷ ss)) k ≤ 1 = rw ch at (it.so.once k) in omega (arith, numbers_append cs (s ∷ ss) k, numbers_append cs (s₁ ∷ ss) k, same_one k);
          below = λ k l. it.so.below k (rw ch (omega (arith, numbers_append cs (s ∷ ss) k, numbers_append cs (s₁ ∷ ss) k, same_one k)));
          small = omega (arith, it.so.small);
          short = it.so.short;
          bytes = it.so.bytes;
        }
          where
            same_one : (k : ℕ) → bit (eqb s.number k) ≡ bit (eqb num k)
            same_one k = ap (λ z. bit (eqb z k)) is

        changes : (k : ℕ) → Changes n pre (slot_cells (head_or ss 0) s) (slot_cells (head_or ss 0) s₁) post eb k
        unfolding times
        changes k =
            let t₀ = ap (λ z. times z k) (slot_keys (head_or ss 0) s) in
            let t₁ = ap (λ z. times z k) (slot_keys (head_or ss 0) s₁) in
            let t₂ = times_append (take m s.more) new k in
            let t₃ = ap (λ z. times z k) (sym (take-append-drop m s.more)) ∙ times_append (take m s.more) (drop m s.more) k in
            let t₄ = tk_append (slot_cells (head_or ss 0) s₁) (blanks (drop m s.more)) k in
            let t₅ = ap (λ z. times z k) (blank_keys (drop m s.more)) in
            let all_is = ap (λ c. tk c k) it.was ∙ tk_append pre (slot_cells (head_or ss 0) s ++ post) k in
            let all_is₂ = tk_append (slot_cells (head_or ss 0) s) post k in
            let one = sd.once k in
            let fo = free.once k in
            elim (zero_or (times new k)) [
              | inl z ↦ record {
                once = omega arith;
                apart = λ l. omega arith;
                range = λ l. sd.range k (omega arith);
                far = λ l. (omega arith, sd.range k (omega arith));
                eb_once = omega arith;
                local = over _ (slot_cells (head_or ss 0) s) (drop m s.more) k (omega arith);
              }
              | inr p ↦ let f = free.fresh k p in record {
                once = omega (arith, f.0);
                apart = λ l. omega (arith, f.0);
                range = λ l. (f.1, f.2);
                far = λ l. (omega (arith, f.0), (f.1, f.2));
                eb_once = omega (arith, f.0);
                local = over _ (slot_cells (head_or ss 0) s) (drop m s.more) k (omega arith);
              }
            ]

        head_same : head_or o.chain 0 ≡ head_or (cs ++ s₁ ∷ ss) 0
        head_same = ap (λ c. head_or c 0) ch ∙ go cs
          where
            go : (cs : List Slot) → head_or (cs ++ s ∷ ss) 0 ≡ head_or (cs ++ s₁ ∷ ss) 0
            go [] = refl
            go (c ∷ cs) = refl

        few_so : length eb ≤ 27
        few_so =
            let l = length-append (slot_cells (head_or ss 0) s₁) (blanks (drop m s.more)) in
            let k = ap length (slot_keys (head_or ss 0) s₁) in
            let j = ap length (blank_keys (drop m s.more)) in
            let d = length-drop m s.more in
            omega (arith, length_keys (slot_cells (head_or ss 0) s₁), length_keys (blanks (drop m s.more)), owner_so_count, event_sizes e fit, old_few)

        change_done : Done n (suc b) ps (eb ++ closing ps a (new_record (record_in ps a) o.next (head_or o.chain 0)) (length g.owners) w₁ g.cursor) (plain g₁)
        change_done =
            let rd = reading n b ps g sd sz sh hb a la in
            edited n b ps g sd sz sh a la o₁ g.cursor sd.cursor_in owner_so (rw weight_new room)
            pre (slot_cells (head_or ss 0) s) (slot_cells (head_or ss 0) s₁) post eb it.was now_so few_so changes
            _ _ _ (ap₂ (λ r h. new_record r o.next h) rd.record_so head_same ∙ rec_new o rd.rest o₁ refl it.so.short) refl (sym weight_new)

      change_there : (t : Bool) → ltb (weight (plain g)) w₁ && ltb (128 * n) w₁ ≡ t → Result n (suc b) ps (plain g) (turn (plain g) (change a num e)) (do_change n ps a num e)
      unfolding TurnMay
      change_there true r =
          let x = ltb-true (weight (plain g)) w₁ (and_parts _ _ r).0 in
          let y = ltb-true (128 * n) w₁ (and_parts (ltb (weight (plain g)) w₁) _ r).1 in
          rw (turn_yes, do_full r) (no_room n b ps (plain g) _ (plain g₁) held (rw weight_new x) (rw weight_new y))
      change_there false r =
          let room : w₁ ≤ 128 * n = elim (and_cases _ _ r) [ inl x ↦ let l = ltb-false (weight (plain g)) w₁ x in omega (arith, sd.light) | inr y ↦ ltb-false (128 * n) w₁ y ] in
          rw (turn_yes, do_yes r) (record { after = plain g₁; may = inl (refl, refl, refl); holds = (change_done room).holds; fine = (change_done room).fine })

    change_any : Where o.chain num → Result n (suc b) ps (plain g) (turn (plain g) (change a num e)) (do_change n ps a num e)
    change_any (nowhere z) = rw (turn_none z, do_none z) (refused_so n b 3 ps (plain g) held)
    change_any (there cs s ss ch zc is) = change_there cs s ss ch zc is _ refl

  change_all : (t : Bool) → ltb a (length g.owners) ≡ t → Result n (suc b) ps (plain g) (turn (plain g) (change a num e)) (do_change n ps a num e)
  unfolding turn do_change
  change_all true q = change_any q (look (owner_at g.owners a).chain num)
  change_all false q = rw (people_many g.owners, q, count_is n b ps g sd sz sh, q) (refused_so n b 3 ps (plain g) held)

-- CHANGE is the plain house's
pub change_right : (n b : ℕ) (ps : List Page) (w : Plain) (a num : ℕ) (e : Event) → Holds n b ps w → b < 18446744073709551615 → an_event e ≡ true →
    Result n (suc b) ps w (turn w (change a num e)) (do_change n ps a num e)
change_right n b ps w a num e h hb fit =
    subst (λ v. Result n (suc b) ps v (turn v (change a num e)) (do_change n ps a num e)) h.is
    (change_all n b ps h.ghost h.sound h.size h.shown hb a num e fit (ltb a (length h.ghost.owners)) refl)

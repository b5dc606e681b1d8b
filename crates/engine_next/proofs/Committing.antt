-- The machine's commit does the acts that the store owes.
use Rattle.std.proofs.Common.{◌≡◌, ℕ, suc, ◌+◌, ◌<◌, ◌≤◌, Bool, true, false, eqb, ltb, List, [], length, get_or, Some, sym, refl, ap, ◌∙◌, arith}
use Rattle.std.proofs.lemmas.Bool.{eq-eqb, lt-ltb, le-ltb, ltb-true, ltb-false}
use Rattle.pages.specs.Lists.{bit}
use Rattle.pages.specs.Cells.{Cell, contents, keys}
use Rattle.pages.specs.Device.{page_at}
use Rattle.pages.specs.Run.{Step, next, write}
use Rattle.pages.specs.Store.{Heads, header_page, slot}
use Rattle.pages.specs.Journal.{going, headed, homed, homes_from, next_at, slots_from}
use Rattle.pages.specs.declared.deed.Deed.{Deed}
use Rattle.pages.specs.declared.deed.Deed.TheVariants.{Read, Write, Ready}
use Rattle.pages.specs.declared.deed.Content.TheVariants.{Batch as InBatch}
use Rattle.pages.specs.declared.side.Side.{Side}
use Rattle.pages.specs.declared.side.Side.TheVariants.{First, Second}
use Rattle.pages.specs.declared.journal.Part.{Part}
use Rattle.pages.specs.declared.journal.Part.TheVariants.{Area, Slot, Head, Home}
use Rattle.pages.specs.declared.journal.Commit.{Commit}
use Rattle.pages.specs.declared.deed.Step.{Step as StoreStep}
use Rattle.pages.proofs.Commits.{Batch, Committing}
use Rattle.pages.proofs.Header.{header_heads, header_a_page}
use Rattle.pages.proofs.Recovers.{does}
use Rattle.engine_next.specs.Memory.{batch_in, head_in, stored}
use Rattle.engine.specs.Own.{a_house}
use Rattle.engine_next.specs.Own.{own, committed, committed_if, told, with_commit}
use Rattle.engine_next.specs.declared.registers.Registers.{Registers}
use Rattle.engine_next.proofs.Areas.{head_stored}
use Rattle.engine_next.proofs.Turns.{act_stored, own_next, phase_part}

pub bit_same : (q : Bool) → eqb (bit q) 1 ≡ q
bit_same true = refl
bit_same false = refl

-- a memory that is ready for the commit of a batch into an area
pub record Prepared (n : ℕ) (q : Bool) (b : List Cell) (r : Registers) (m ws : List ℕ) : Type 0 where
  pub pages : r.pages ≡ n
  pub long : length m ≡ 262144
  pub head : head_in m ≡ ws
  pub head_long : length ws ≡ 32
  pub head_small : (i : ℕ) → i < 3 + length b → get_or ws i 0 < 18446744073709551616
  pub mark : get_or ws 0 0 ≡ 1
  pub area : get_or ws 1 0 ≡ bit q
  pub count : get_or ws 2 0 ≡ length b
  pub addresses : (i : ℕ) → i < length b → get_or ws (3 + i) 0 ≡ get_or (keys b) i 0
  pub batch : (i : ℕ) → i < length b → batch_in i m ≡ page_at (contents b) i

module _ (n : ℕ) (house : a_house n ≡ true) (top : n ≤ 1048576) (q : Bool) (b : List Cell) (ok : Batch n b) (r : Registers) (m ws : List ℕ) (p : Prepared n q b r m ws) where
  at_part : Part → ℕ → List ℕ
  at_part x i = stored (with_commit (record { part = x; at = i }) r) m

  carried : StoreStep Commit → Step
  carried t = committed t.deed t.state r m

  -- only what the commit changes of the registers is new
  carry_past : (d : Deed) (c x : Commit) → committed d c (with_commit x r) (stored (with_commit x r) m) ≡ committed d c r m
  unfolding stored
  carry_past Ready c x = refl
  carry_past (Read s k) c x = refl
  carry_past (Write s k y) c x = ap (does (stored (with_commit c r) m)) (act_stored (Write s k y) [] (with_commit x r) m)

  step_on : (x : Part) (i : ℕ) (t : StoreStep Commit) → i < 29 → next_at x ws i ≡ Some t → own.step (at_part x i) next ≡ carried t
  unfolding at_part carried
  step_on x i t l e =
      let c : Commit = record { part = x; at = i } in
      own_next (with_commit c r) m p.long (rw p.pages house)
      ∙ rw (phase_part x, head_stored (with_commit c r) m, p.head, lt-ltb i 29 l, eq-eqb (length ws) 32 p.head_long, e) (carry_past t.deed t.state c)

  slots_at : (i : ℕ) → i < length b → slots_from ws i ≡ going (Slot First) i (Write First (slot q i) (InBatch i))
  slots_at i l =
      let few : i < 29 = omega (arith, ok.few) in
      rw (p.count, lt-ltb i (length b) l, lt-ltb i 29 few, p.area, bit_same q)

  slots_end : slots_from ws (length b) ≡ headed First
  slots_end = rw (p.count, le-ltb (length b) (length b) (omega arith))

  home_at : (i : ℕ) → i < length b → (d : Side) → homed d ws i ≡ Some (going (Home d) i (Write d (59 + get_or (keys b) i 0) (InBatch i)))
  home_at i l d =
      let few : i < 29 = omega (arith, ok.few) in
      let a : get_or (keys b) i 0 < 1048576 = omega (arith, ok.named i l) in
      rw (lt-ltb i 29 few, p.addresses i l, lt-ltb (get_or (keys b) i 0) 1048576 a)

  homes_at : (i : ℕ) → i < length b → homes_from ws i ≡ Some (going (Home First) i (Write First (59 + get_or (keys b) i 0) (InBatch i)))
  homes_at i l = rw (p.count, lt-ltb i (length b) l) (home_at i l First)

  homes_end : homes_from ws (length b) ≡ Some (going Area 0 Ready)
  homes_end = rw (p.count, le-ltb (length b) (length b) (omega arith))

  slots : ℕ → Step
  slots i = carried (slots_from ws i)

  homes : ℕ → Step
  homes i = committed_if (homes_from ws i) r m

  -- the homes from one page on are reached from a part before
  homes_from_part : (x : Part) (i j : ℕ) → i < 29 → next_at x ws i ≡ homes_from ws j → j ≤ length b → own.step (at_part x i) next ≡ homes j
  unfolding homes carried
  homes_from_part x i j l e h = go (ltb j (length b)) refl
    where
      reached : (t : StoreStep Commit) → homes_from ws j ≡ Some t → own.step (at_part x i) next ≡ committed_if (homes_from ws j) r m
      reached t w = step_on x i t l (e ∙ w) ∙ sym (ap (λ o. committed_if o r m) w)

      go : (k : Bool) → ltb j (length b) ≡ k → own.step (at_part x i) next ≡ committed_if (homes_from ws j) r m
      go true w = reached _ (homes_at j (ltb-true j (length b) w))
      go false w = let f = ltb-false j (length b) w in let y : j ≡ length b = omega arith in reached _ (ap (homes_from ws) y ∙ homes_end)

  pub own_committing : Committing own q b
  unfolding slots homes at_part carried
  own_committing =
      record {
        head = header_page ws;
        head_says = heads;
        head_page = header_a_page ws p.head_long;
        slots = slots;
        homes = homes;
        slot_0 = at_part (Slot First);
        slot_1 = at_part (Slot Second);
        home_0 = at_part (Home First);
        home_1 = at_part (Home Second);
        head_0 = at_part (Head First) 0;
        head_1 = at_part (Head Second) 0;
        puts_0 = λ i l. ap carried (slots_at i l) ∙ ap (λ z. does (at_part (Slot First) i) (write 0 (slot q i) z)) (p.batch i l);
        puts_1 = λ i l. let few : i < 29 = omega (arith, ok.few) in step_on (Slot First) i (going (Slot Second) i (Write Second (slot q i) (InBatch i))) few (rw (p.area, bit_same q)) ∙ ap (λ z. does (at_part (Slot Second) i) (write 1 (slot q i) z)) (p.batch i l);
        puts_on = λ i l. let few : i < 29 = omega (arith, ok.few) in step_on (Slot Second) i _ few refl ∙ ap (λ j. carried (slots_from ws j)) (omega arith);
        heads_0 = ap carried slots_end ∙ ap (λ z. does (at_part (Head First) 0) (write 0 0 (header_page z))) p.head;
        heads_1 = step_on (Head First) 0 _ (omega arith) refl ∙ ap (λ z. does (at_part (Head Second) 0) (write 1 0 (header_page z))) p.head;
        heads_on = homes_from_part (Head Second) 0 0 (omega arith) refl (omega arith);
        sets_0 = λ i l. ap (λ o. committed_if o r m) (homes_at i l) ∙ ap (λ z. does (at_part (Home First) i) (write 0 (59 + get_or (keys b) i 0) z)) (p.batch i l);
        sets_1 = λ i l. let few : i < 29 = omega (arith, ok.few) in
            step_on (Home First) i _ few (home_at i l Second) ∙ ap (λ z. does (at_part (Home Second) i) (write 1 (59 + get_or (keys b) i 0) z)) (p.batch i l);
        sets_on = λ i l. let few : i < 29 = omega (arith, ok.few) in homes_from_part (Home Second) i (suc i) few (ap (homes_from ws) (omega arith)) (omega arith);
      }
    where
      heads : Heads (header_page ws) q (length b) (λ i. get_or (keys b) i 0)
      heads =
          let few : get_or ws 2 0 ≤ 29 = omega (arith, ok.few, p.count) in
          let h = header_heads ws p.head_long (λ i l. p.head_small i (omega (arith, p.count))) p.mark few in
          record {
            marks = h.marks;
            which = h.which ∙ ap (λ z. eqb z 1) p.area ∙ bit_same q;
            many = h.many ∙ p.count;
            names = λ i l. h.names i (omega (arith, p.count)) ∙ p.addresses i l;
          }

  -- when all is in its place, the number is shown
  pub committed_all : own_committing.homes (length b) ≡ told r m
  unfolding own_committing homes
  committed_all = ap (λ o. committed_if o r m) homes_end

  -- the commit begins where the area is known
  pub commit_starts : own_committing.slots 0 ≡ committed (slots_from ws 0).deed (slots_from ws 0).state r m
  unfolding own_committing slots carried
  commit_starts = refl

-- What the machine does when power comes up is the recovery that the store asks for.
use Rattle.std.proofs.Common.{◌≡◌, ℕ, zero, suc, ◌+◌, ◌<◌, ◌≤◌, Bool, true, false, not, eqb, leb, List, [], length, get_or, Some, sym, refl, ap, ◌∙◌, add-one, arith, lit<, lit≤}
use Rattle.std.proofs.lemmas.List.{ext_get_or}
use Rattle.std.proofs.lemmas.Bool.{and_from, cond_both, eq-eqb, le-leb, le-ltb, lt-ltb}
use Rattle.pages.specs.Lists.{bit}
use Rattle.pages.specs.Device.{Page, zeros, a_page}
use Rattle.pages.specs.Run.{on, page, next, Step, read, write, done}
use Rattle.pages.specs.Store.{mark, area, count, address, header_page, heads_of}
use Rattle.pages.specs.Deeds.{other, side_at, side_number}
use Rattle.pages.specs.Waking.{fresh_head, source_of, chosen, going, wiped_from, copied_from, replayed_from, home_of, homing, brought, awaits_header, steady, page_at, next_at}
use Rattle.pages.specs.declared.deed.Content.TheVariants.{Told}
use Rattle.pages.specs.declared.deed.Deed.TheVariants.{Write}
use Rattle.pages.specs.declared.side.Side.{Side}
use Rattle.pages.specs.declared.side.Side.TheVariants.{First, Second}
use Rattle.pages.specs.declared.waking.Stage.{Stage}
use Rattle.pages.specs.declared.waking.Stage.TheVariants.{Header, Mending, Wiping, Marking, Asking, Copying, Heading, Slot, Home}
use Rattle.pages.specs.declared.waking.Recovery.{Recovery as Stand}
use Rattle.pages.specs.declared.deed.Step.{Step as StoreStep}
use Rattle.pages.proofs.Header.{header_again, header_again_page, header_number, heads_number, length_heads, new_a_page, new_marks, new_none}
use Rattle.pages.proofs.Recovers.{Recovery, Sound, does}
use Rattle.engine_next.specs.Memory.{start_memory, loaded, stored, head_in, with_head}
use Rattle.engine_next.specs.Phases.{stage_number}
use Rattle.engine.specs.Own.{a_house}
use Rattle.engine_next.specs.Own.{act_for, own, woken}
use Rattle.engine_next.specs.declared.registers.Registers.{Registers}
use Rattle.engine_next.proofs.Areas.{Ready, head_again, head_back, head_past, head_stored, loaded_stored, long_head, long_stored, stored_stored}
use Rattle.engine_next.proofs.Start.{start_length}
use Rattle.engine_next.proofs.Turns.{act_stored, own_next, own_page, own_step, phase_stage}

-- THE MEMORY while power comes up: what is awaited, a place, a side, and the header's numbers
abbrev held : ℕ → ℕ → ℕ → ℕ → Registers
held n ph k d = record { phase = ph; pages = n; at = k; side = d; long = (loaded start_memory).long; people = (loaded start_memory).people; weight = (loaded start_memory).weight }

abbrev holding : List ℕ → List ℕ
holding ws = with_head ws start_memory

unfoldable pub waking : ℕ → ℕ → ℕ → ℕ → List ℕ → List ℕ
waking n ph k d ws = stored (held n ph k d) (holding ws)

abbrev standing : Stage → ℕ → ℕ → Side → Stand
standing s n k d = record { stage = s; pages = n; at = k; side = side_number d }

holding_long : (ws : List ℕ) → length ws ≡ 32 → length (holding ws) ≡ 262144
holding_long ws h = long_head ws start_memory h start_length

-- a move, done from there
abbrev moved : ℕ → StoreStep Stand → Page → List ℕ → Step
moved n v x ws = does (waking n (stage_number v.state.stage) v.state.at v.state.side ws) (act_for v.deed x (holding ws))

woken_so : (n ph k d ph₁ k₁ d₁ : ℕ) (v : StoreStep Stand) (x : Page) (ws : List ℕ) → woken v (held n ph k d) x (stored (held n ph₁ k₁ d₁) (holding ws)) ≡ moved n v x ws
unfolding waking
woken_so n ph k d ph₁ k₁ d₁ v x ws = rw (act_stored v.deed x (held n ph₁ k₁ d₁) (holding ws), stored_stored)

-- THE NUMBERS OF A HEADER
mark_of : (p : Page) → eqb (get_or (heads_of p) 0 0) 1 ≡ mark p
unfolding mark
mark_of p = ap (λ v. eqb v 1) (heads_number p 0 (lit< tt))

area_of : (p : Page) → eqb (get_or (heads_of p) 1 0) 1 ≡ area p
unfolding area
area_of p = ap (λ v. eqb v 1) (heads_number p 1 (lit< tt))

count_of : (p : Page) → get_or (heads_of p) 2 0 ≡ count p
unfolding count
count_of p = heads_number p 2 (lit< tt)

address_of : (p : Page) (i : ℕ) → i < 29 → get_or (heads_of p) (3 + i) 0 ≡ address p i
unfolding address
address_of p i l = heads_number p (3 + i) (omega arith)

zero_at : (k i : ℕ) → get_or (zeros k) i 0 ≡ 0
unfolding zeros
zero_at zero i = refl
zero_at (suc k) zero = refl
zero_at (suc k) (suc i) = zero_at k i

fresh_long : length fresh_head ≡ 32
unfolding fresh_head zeros
fresh_long = refl

fresh_small : (i : ℕ) → get_or fresh_head i 0 < 18446744073709551616
unfolding fresh_head
fresh_small zero = lit< tt
fresh_small (suc i) = rw (zero_at 31 i) (lit< tt)

fresh_marked : mark (header_page fresh_head) ≡ true
unfolding fresh_head
fresh_marked = new_marks

fresh_none : count (header_page fresh_head) ≡ 0
unfolding fresh_head
fresh_none = new_none

fresh_page : a_page (header_page fresh_head) ≡ true
unfolding fresh_head
fresh_page = new_a_page

-- the header of a new store, read again
fresh_again : heads_of (header_page fresh_head) ≡ fresh_head
fresh_again =
    let a = length_heads (header_page fresh_head) in
    let b = fresh_long in
    ext_get_or 0 _ _ (omega arith) (λ i l. heads_number (header_page fresh_head) i (omega arith) ∙ header_number fresh_head i (omega arith) (fresh_small i))

-- a side, told by a Bool, by a register or by itself
abbrev told_side : Bool → Side
told_side true = Second
told_side false = First

told_number : (d : Bool) → side_number (told_side d) ≡ bit d
told_number true = refl
told_number false = refl

other_number : (d : Bool) → side_number (other (told_side d)) ≡ bit (not d)
other_number true = refl
other_number false = refl

side_back : (d : Side) → side_at (side_number d) ≡ d
side_back First = refl
side_back Second = refl

side_is : (d : Side) → leb (side_number d) 1 ≡ true
side_is First = refl
side_is Second = refl

chosen_long : (ws vs : List ℕ) → length ws ≡ 32 → length vs ≡ 32 → length (chosen ws vs) ≡ 32
chosen_long ws vs h k =
    cond_both (eqb (get_or ws 0 0) 1) _ _ (λ z. length z ≡ 32) (λ e. h) (λ e. cond_both (eqb (get_or vs 0 0) 1) _ _ (λ z. length z ≡ 32) (λ f. k) (λ f. fresh_long))

module _ (n : ℕ) (lo : 256 ≤ n) (hi : n ≤ 1048576) where
  house : a_house n ≡ true
  house = and_from _ _ (le-leb 256 n lo) (le-leb n 1048576 hi)

  head_held : (ph k d : ℕ) (ws : List ℕ) → length ws ≡ 32 → head_in (stored (held n ph k d) (holding ws)) ≡ ws
  head_held ph k d ws h = head_stored (held n ph k d) (holding ws) ∙ head_back ws start_memory h start_length

  is_steady : (s : Stage) (k : ℕ) (d : Side) (ws : List ℕ) → length ws ≡ 32 → k ≤ 1048576 → steady (standing s n k d) ws ≡ true
  is_steady s k d ws h a = and_from _ _ (and_from _ _ (le-leb n 1048576 hi) (and_from _ _ (le-leb k 1048576 a) (side_is d))) (eq-eqb (length ws) 32 h)

  -- BOTH HEADERS
  powers : own.step start_memory (on n) ≡ does (stored (held n 1 0 0) start_memory) (read 0 0)
  powers = own_step start_memory (on n) start_length ∙ rw house

  first_header : (p : Page) → a_page p ≡ true → own.step (stored (held n 1 0 0) start_memory) (page p) ≡ does (waking n 2 0 0 (heads_of p)) (read 1 0)
  unfolding waking
  first_header p v =
      own_page (held n 1 0 0) start_memory p start_length house v ∙ rw (phase_stage (Header First), head_past (held n 1 0 0) (heads_of p) start_memory start_length, stored_stored)

  abbrev decided : Page → Page → Step
  decided p p₁ = moved n (brought (source_of (heads_of p) (heads_of p₁)) (standing (Header Second) n 0 First)) p₁ (chosen (heads_of p) (heads_of p₁))

  put_again : (ph k d : ℕ) (ws vs : List ℕ) → length ws ≡ 32 → length vs ≡ 32 → with_head vs (stored (held n ph k d) (holding ws)) ≡ stored (held n ph k d) (holding vs)
  put_again ph k d ws vs h k₁ = head_past (held n ph k d) vs (holding ws) (holding_long ws h) ∙ ap (stored (held n ph k d)) (head_again ws vs start_memory h k₁ start_length)

  second_header : (p p₁ : Page) → a_page p₁ ≡ true → own.step (waking n 2 0 0 (heads_of p)) (page p₁) ≡ decided p p₁
  unfolding waking
  second_header p p₁ v =
      let h = length_heads p in
      own_page (held n 2 0 0) (holding (heads_of p)) p₁ (holding_long (heads_of p) h) house v
      ∙ rw (phase_stage (Header Second), head_held 2 0 0 (heads_of p) h, put_again 2 0 0 (heads_of p) (chosen (heads_of p) (heads_of p₁)) h (chosen_long (heads_of p) (heads_of p₁) h (length_heads p₁)))
      (woken_so n 2 0 0 2 0 0 (brought (source_of (heads_of p) (heads_of p₁)) (standing (Header Second) n 0 First)) p₁ (chosen (heads_of p) (heads_of p₁)))

  -- ANOTHER PAGE, and the end of an act
  comes : (s : Stage) (k : ℕ) (d : Side) (ws x : List ℕ) (v : StoreStep Stand) → awaits_header s ≡ false → length ws ≡ 32 → k ≤ 1048576 → a_page x ≡ true → page_at s ws (standing s n k d) ≡ Some v →
      own.step (waking n (stage_number s) k (side_number d) ws) (page x) ≡ moved n v x ws
  unfolding waking
  comes s k d ws x v w h a vx e =
      own_page (held n (stage_number s) k (side_number d)) (holding ws) x (holding_long ws h) house vx
      ∙ rw (phase_stage s, w, head_held (stage_number s) k (side_number d) ws h, is_steady s k d ws h a, e)
      (woken_so n (stage_number s) k (side_number d) (stage_number s) k (side_number d) v x ws)

  goes_on : (s : Stage) (k : ℕ) (d : Side) (ws : List ℕ) (v : StoreStep Stand) → length ws ≡ 32 → k ≤ 1048576 → next_at s ws (standing s n k d) ≡ Some v →
      own.step (waking n (stage_number s) k (side_number d) ws) next ≡ moved n v [] ws
  unfolding waking
  goes_on s k d ws v h a e =
      own_next (held n (stage_number s) k (side_number d)) (holding ws) (holding_long ws h) house
      ∙ rw (phase_stage s, head_held (stage_number s) k (side_number d) ws h, is_steady s k d ws h a, e)
      (woken_so n (stage_number s) k (side_number d) (stage_number s) k (side_number d) v [] ws)

  abbrev wipes_from : ℕ → Step
  wipes_from k = moved n (wiped_from k (standing Wiping n 0 First)) [] fresh_head

  abbrev copies_from : Bool → Page → ℕ → Step
  copies_from d p k = moved n (copied_from (told_side d) k (standing Asking n 0 First)) [] (heads_of p)

  abbrev replays_from : Page → ℕ → Step
  replays_from p i = moved n (replayed_from (heads_of p) i (standing (Slot First) n 0 First)) [] (heads_of p)

  -- A HEADER WRITTEN
  wrote : (m : List ℕ) (s k : ℕ) (ws : List ℕ) → length ws ≡ 32 → does m (write s k (header_page (head_in (holding ws)))) ≡ does m (write s k (header_page ws))
  wrote m s k ws h = rw (head_back ws start_memory h start_length)

  -- the places of a sound header
  few_at : (p : Page) → Sound n p → (i : ℕ) → i < count p → i ≤ 1048576
  few_at p sp i l = let f = sp.few in omega arith

  homes : (p : Page) → Sound n p → (i : ℕ) → i < count p → (d : Side) (s : Stage) →
      homing (home_of (heads_of p) i) d (standing s n i First) ≡ Some (going (Home d) i First (Write d (59 + address p i) Told) (standing s n i First))
  homes p sp i l d s =
      let f = sp.few in
      let g = sp.named i l in
      let a : address p i < 1048576 = omega arith in
      rw (lt-ltb i 29 (omega arith), address_of p i (omega arith), lt-ltb (address p i) 1048576 a)

  pub own_recovery : Recovery own n
  unfolding own
  own_recovery =
      record {
        renew = λ p. header_page (heads_of p);
        fresh = header_page fresh_head;
        renews = λ p sp. header_again p sp.valid sp.marks sp.few;
        renews_page = λ p sp. header_again_page p;
        fresh_marks = fresh_marked;
        fresh_none = fresh_none;
        fresh_page = fresh_page;
        asked_0 = stored (held n 1 0 0) start_memory;
        asked_1 = λ p. waking n 2 0 0 (heads_of p);
        decide = decided;
        wipe = wipes_from;
        copy = copies_from;
        replay = replays_from;
        mending = λ p. waking n 3 0 0 (heads_of p);
        first = powers;
        second = first_header;
        third = λ p p₁ v v₁. second_header p p₁ v₁;
        neither = λ p p₁ u u₁. rw (mark_of p ∙ u, mark_of p₁ ∙ u₁, lt-ltb 1 n (omega arith));
        only_0 = λ p p₁ sp u. rw (mark_of p ∙ sp.marks, mark_of p₁ ∙ u, lt-ltb 1 n (omega arith));
        only_1 = λ p p₁ u sp. rw (mark_of p ∙ u, mark_of p₁ ∙ sp.marks, lt-ltb 1 n (omega arith));
        both = λ p p₁ sp v m. rw (mark_of p ∙ sp.marks, mark_of p₁ ∙ m) (wrote _ 1 0 (heads_of p) (length_heads p));
        mended = λ p sp. goes_on Mending 0 First (heads_of p) _ (length_heads p) (lit≤ tt) refl;
        wiping = λ k. waking n 4 k 0 fresh_head;
        marking = waking n 5 0 0 fresh_head;
        wipes = λ k l₁ l. rw (lt-ltb k n l);
        wipes_on = λ k l₁ l. goes_on Wiping k First fresh_head _ fresh_long (omega arith) refl ∙ ap wipes_from (add-one k);
        wipes_end = rw (le-ltb n n (omega arith)) (wrote _ 0 0 fresh_head fresh_long);
        wiped_all = rw fresh_again (goes_on Marking 0 First fresh_head _ fresh_long (lit≤ tt) refl);
        reading = λ d p k. waking n 6 k (side_number (told_side d)) (heads_of p);
        writing = λ d p k. waking n 7 k (side_number (told_side d)) (heads_of p);
        heading = λ d p. waking n 8 0 (side_number (told_side d)) (heads_of p);
        copies_ask = λ d p sp k l₁ l. rw (lt-ltb k n l) (ap (λ z. does (waking n 6 k (side_number (told_side d)) (heads_of p)) (read z k)) (told_number d));
        copies_put = λ d p sp k x v l₁ l. rw (sym (other_number d)) (comes Asking k (told_side d) (heads_of p) x _ refl (length_heads p) (omega arith) v (ap (λ z. Some (going Copying k z (Write (other z) k Told) (standing Asking n k (told_side d)))) (side_back (told_side d))));
        copies_on = λ d p sp k l₁ l. goes_on Copying k (told_side d) (heads_of p) _ (length_heads p) (omega arith) (ap (λ z. Some (copied_from z (k + 1) (standing Copying n k (told_side d)))) (side_back (told_side d))) ∙ ap (copies_from d p) (add-one k);
        copies_end = λ d p sp. rw (le-ltb n n (omega arith), other_number d) (wrote _ (bit (not d)) 0 (heads_of p) (length_heads p));
        copied = λ d p sp. goes_on Heading 0 (told_side d) (heads_of p) _ (length_heads p) (lit≤ tt) refl;
        getting_0 = λ p i. waking n 9 i 0 (heads_of p);
        homing_0 = λ p i. waking n 10 i 0 (heads_of p);
        getting_1 = λ p i. waking n 11 i 0 (heads_of p);
        homing_1 = λ p i. waking n 12 i 0 (heads_of p);
        replays_ask_0 = λ p sp i l. rw (count_of p, lt-ltb i (count p) l, area_of p);
        replays_put_0 = λ p sp i l x v. comes (Slot First) i First (heads_of p) x _ refl (length_heads p) (few_at p sp i l) v (homes p sp i l First (Slot First));
        replays_ask_1 = λ p sp i l. rw (sym (area_of p)) (goes_on (Home First) i First (heads_of p) _ (length_heads p) (few_at p sp i l) refl);
        replays_put_1 = λ p sp i l x v. comes (Slot Second) i First (heads_of p) x _ refl (length_heads p) (few_at p sp i l) v (homes p sp i l Second (Slot Second));
        replays_on = λ p sp i l. goes_on (Home Second) i First (heads_of p) _ (length_heads p) (few_at p sp i l) refl ∙ ap (replays_from p) (add-one i);
      }

-- what memory holds when power has come up
unfoldable pub idle : ℕ → Page → List ℕ
idle n p = waking n 1 0 0 (heads_of p)

pub own_ends : (n : ℕ) (lo : 256 ≤ n) (hi : n ≤ 1048576) (p : Page) → Sound n p → (own_recovery n lo hi).replay p (count p) ≡ does (idle n p) done
unfolding own_recovery idle
own_ends n lo hi p sp = rw (count_of p, le-ltb (count p) (count p) (omega arith))

pub own_ready : (n : ℕ) → 256 ≤ n → n ≤ 1048576 → (p : Page) → Sound n p → Ready n (idle n p)
unfolding idle waking
own_ready n lo hi p sp =
    record { long = long_stored (held n 1 0 0) (holding (heads_of p)) (holding_long (heads_of p) (length_heads p)); has = ap (λ r. r.pages) (loaded_stored (held n 1 0 0) (holding (heads_of p))) }

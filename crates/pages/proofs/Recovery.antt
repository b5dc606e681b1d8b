-- Recovery: format, copy, header, replay; for any engine that does these acts.
use Rattle.std.proofs.Common.{◌≡◌, ℕ, zero, suc, ◌+◌, ◌-◌, ◌<◌, ◌≤◌, Bool, true, false, not, eqb, List, length, sym, refl, ap, ◌∙◌, subst, arith}
use Rattle.std.proofs.lemmas.Bool.{eqb-true, eqb-false}
use Rattle.pages.specs.Lists.{bit, pick}
use Rattle.pages.specs.Device.{Page, set_page, page_at, half, zeros, blank, a_page}
use Rattle.pages.specs.Run.{Engine, Event, page, next, read, write, Step, Ran}
use Rattle.pages.specs.Store.{mark, area, count, address, Heads, slot, Body, Side, Sheets, Up, new_pages, Off}
use Rattle.pages.proofs.Safe.{Crash, Safe, reads_src, writes_dst}
use Rattle.pages.proofs.Rules.{reads_0, reads_1, writes_0, writes_1}
use Rattle.pages.proofs.Header.{torn_mark}
use Rattle.pages.proofs.Pages.{page_at_set, page_at_other, length_blank, blank_at, zeros_page, page_long}
use Rattle.pages.proofs.Store.{sheets_set, sheets_torn, slot_below, side_head, Homing, homing_below, homing_more, homing_torn, off_homing, up_homing}

slot_positive : (q : Bool) (i : ℕ) → 1 ≤ slot q i
slot_positive true i = omega arith
slot_positive false i = omega arith

-- the same pages but for the header
pub body_same : (xs ys : List Page) (q : Bool) (c : ℕ) (f : ℕ → ℕ) (s : List Page) → length ys ≡ length xs → ((i : ℕ) → 1 ≤ i → i < length xs → page_at ys i ≡ page_at xs i) →
    Body xs q c f s → Body ys q c f s
body_same xs ys q c f s l h b =
    let w : length xs ≡ 59 + length s = b.long in
    let few : c ≤ 29 = b.few in
    record {
      few = b.few;
      long = l ∙ b.long;
      named = b.named;
      slots = λ i li. let below : slot q i < 59 = slot_below q i (omega arith) in h (slot q i) (slot_positive q i) (omega arith) ∙ b.slots i li;
      homes = λ k lk hk. h (59 + k) (omega arith) (omega arith) ∙ b.homes k lk hk;
    }

-- a header's own numbers may stand for what it says
pub body_own : (xs : List Page) (p : Page) (q : Bool) (c : ℕ) (f : ℕ → ℕ) (s : List Page) → Heads p q c f → Body xs q c f s → Body xs (area p) (count p) (address p) s
body_own xs p q c f s h b =
    let e : count p ≡ c = h.many in
    record {
      few = rw e b.few;
      long = b.long;
      named = λ i li. let l : i < c = omega arith in rw (h.names i l) (b.named i l);
      slots = λ i li. let l : i < c = omega arith in rw (h.which, h.names i l) (b.slots i l);
      homes = λ k lk hk. b.homes k lk (λ i l w. hk i (omega arith) (h.names i l ∙ w));
    }

pub heads_own : (p : Page) → mark p ≡ true → Heads p (area p) (count p) (address p)
heads_own p h = record { marks = h; which = refl; many = refl; names = λ i li. refl }

pub side_own : (xs : List Page) (q : Bool) (c : ℕ) (f : ℕ → ℕ) (s : List Page) → Side xs q c f s →
    Side xs (area (page_at xs 0)) (count (page_at xs 0)) (address (page_at xs 0)) s
side_own xs q c f s h = record { head = heads_own (page_at xs 0) h.head.marks; body = body_own xs (page_at xs 0) q c f s h.head h.body }

unmarked_set : (xs : List Page) (k : ℕ) (z : Page) → 1 ≤ k → mark (page_at xs 0) ≡ false → mark (page_at (set_page xs k z) 0) ≡ false
unmarked_set xs k z l h = rw (page_at_other xs k 0 z (omega arith)) h

unmarked_torn : (xs : List Page) (z : Page) → 0 < length xs → length z ≡ 512 → mark (page_at xs 0) ≡ false → mark (page_at (set_page xs 0 (half z (page_at xs 0))) 0) ≡ false
unmarked_torn xs z l lz h = rw (page_at_set xs 0 (half z (page_at xs 0)) l) (torn_mark z (page_at xs 0) lz ∙ h)

-- THE COPY of all pages to a side that is not marked, its header last
module _ (e : Engine) (K : Crash) (Q : Ran → Type 0) (n : ℕ) (d : Bool) (src s : List Page) (ss : List (List ℕ))
    (q : Bool) (c : ℕ) (f : ℕ → ℕ) (z : Page) (hz : Heads z q c f) (zp : a_page z ≡ true) (hs : Side src q c f s) (shs : Sheets n src)
    (copy : ℕ → Step) (reading writing : ℕ → List ℕ) (heading : List ℕ)
    (asks : (k : ℕ) → 1 ≤ k → k < n → copy k ≡ record { memory = reading k; act = read (bit d) k })
    (puts : (k : ℕ) (x : Page) → a_page x ≡ true → 1 ≤ k → k < n → e.step (reading k) (page x) ≡ record { memory = writing k; act = write (bit (not d)) k x })
    (goes : (k : ℕ) → 1 ≤ k → k < n → e.step (writing k) next ≡ copy (suc k))
    (ends : copy n ≡ record { memory = heading; act = write (bit (not d)) 0 z })
    (at_stop : (dst : List Page) → Sheets n dst → mark (page_at dst 0) ≡ false → K (pick d dst src) (pick d src dst) ss)
    (then : (dst : List Page) (r : ℕ) → Sheets n dst → Side dst q c f s → Safe e K Q heading (pick d dst src) (pick d src dst) next ss r) where
  copy_loop : (j k : ℕ) → k + j ≡ n → 1 ≤ k → (dst : List Page) → Sheets n dst → mark (page_at dst 0) ≡ false → ((i : ℕ) → 1 ≤ i → i < k → page_at dst i ≡ page_at src i) →
      (m : List ℕ) (ev : Event) (r : ℕ) → e.step m ev ≡ copy k → Safe e K Q m (pick d dst src) (pick d src dst) ev ss r
  copy_loop zero k w k₁ dst hd um same m ev r p =
      let kn : k ≡ n = omega arith in
      let ls : length src ≡ n = shs.size in
      let ld : length dst ≡ n = hd.size in
      let b : Body dst q c f s = body_same src dst q c f s (omega arith) (λ i l₁ l₂. same i l₁ (omega arith)) hs.body in
      writes_dst e K Q d m heading src dst ev ss r 0 z (p ∙ ap copy kn ∙ ends) (omega arith) (omega arith) zp
      (at_stop dst hd um) (at_stop _ (sheets_torn n dst 0 z (omega arith) zp hd) (unmarked_torn dst z (omega arith) (page_long z zp) um))
      (then (set_page dst 0 z) (suc r) (sheets_set n dst 0 z zp hd) (side_head dst q c f s z hz b))
  copy_loop (suc j) k w k₁ dst hd um same m ev r p =
      let kn : k < n = omega arith in
      let ls : length src ≡ n = shs.size in
      let ld : length dst ≡ n = hd.size in
      let x : Page = page_at src k in
      let xp : a_page x ≡ true = shs.valid k kn in
      reads_src e K Q d m (reading k) src dst ev ss r k (p ∙ asks k k₁ kn)
      (writes_dst e K Q d (reading k) (writing k) src dst (page x) ss (suc r) k x (puts k x xp k₁ kn) (omega arith) (omega arith) xp
      (at_stop dst hd um) (at_stop _ (sheets_torn n dst k x kn xp hd) (unmarked_set dst k _ k₁ um))
      (copy_loop j (suc k) (omega arith) (omega arith) (set_page dst k x) (sheets_set n dst k x xp hd) (unmarked_set dst k x k₁ um) (λ i l₁ l₂. more i l₁ l₂ (eqb k i) refl)
      (writing k) next (suc (suc r)) (goes k k₁ kn)))
    where
      more : (i : ℕ) → 1 ≤ i → i < suc k → (b : Bool) → eqb k i ≡ b → page_at (set_page dst k (page_at src k)) i ≡ page_at src i
      more i l₁ l₂ true v = let ld : length dst ≡ n = hd.size in rw (sym (eqb-true k i v)) (page_at_set dst k (page_at src k) (omega arith))
      more i l₁ l₂ false v = let a : ¬ (k ≡ i) = eqb-false k i v in page_at_other dst k i (page_at src k) a ∙ same i l₁ (omega arith)

  pub copies : (dst : List Page) → Sheets n dst → mark (page_at dst 0) ≡ false → (m : List ℕ) (ev : Event) (r : ℕ) → e.step m ev ≡ copy 1 →
      Safe e K Q m (pick d dst src) (pick d src dst) ev ss r
  copies dst hd um m ev r p =
      let l : length src ≡ 59 + length s = hs.body.long in
      let ls : length src ≡ n = shs.size in
      copy_loop (n - 1) 1 (omega arith) (omega arith) dst hd um (λ i l₁ l₂. let no : ⊥ = omega arith in absurd no) m ev r p

-- BLANK PAGES on side 0, then a marked header with no addresses
module _ (e : Engine) (K : Crash) (Q : Ran → Type 0) (n : ℕ) (room : 59 ≤ n) (ys : List Page) (ss : List (List ℕ)) (q : Bool) (f : ℕ → ℕ) (z : Page) (hz : Heads z q 0 f) (zp : a_page z ≡ true)
    (wipe : ℕ → Step) (wiping : ℕ → List ℕ) (marking : List ℕ)
    (wipes : (k : ℕ) → 1 ≤ k → k < n → wipe k ≡ record { memory = wiping k; act = write 0 k (zeros 512) })
    (goes : (k : ℕ) → 1 ≤ k → k < n → e.step (wiping k) next ≡ wipe (suc k))
    (ends : wipe n ≡ record { memory = marking; act = write 0 0 z })
    (at_stop : (xs : List Page) → Sheets n xs → mark (page_at xs 0) ≡ false → K xs ys ss)
    (then : (xs : List Page) (r : ℕ) → Sheets n xs → Side xs q 0 f (new_pages n) → page_at xs 0 ≡ z → Safe e K Q marking xs ys next ss r) where
  wipe_loop : (j k : ℕ) → k + j ≡ n → 1 ≤ k → (xs : List Page) → Sheets n xs → mark (page_at xs 0) ≡ false → ((i : ℕ) → 1 ≤ i → i < k → page_at xs i ≡ zeros 512) →
      (m : List ℕ) (ev : Event) (r : ℕ) → e.step m ev ≡ wipe k → Safe e K Q m xs ys ev ss r
  wipe_loop zero k w k₁ xs hx um same m ev r p =
      let kn : k ≡ n = omega arith in
      let lx : length xs ≡ n = hx.size in
      let lb : length (blank (n - 59)) ≡ n - 59 = length_blank (n - 59) in
      let b : Body xs q 0 f (new_pages n) = record {
        few = omega arith;
        long = omega arith;
        named = λ i li. let no : ⊥ = omega arith in absurd no;
        slots = λ i li. let no : ⊥ = omega arith in absurd no;
        homes = λ i li _. same (59 + i) (omega arith) (omega arith) ∙ sym (blank_at (n - 59) i (omega arith));
      } in
      writes_0 marking 0 z (p ∙ ap wipe kn ∙ ends) (omega arith) zp
      (at_stop xs hx um) (at_stop _ (sheets_torn n xs 0 z (omega arith) zp hx) (unmarked_torn xs z (omega arith) (page_long z zp) um))
      (then (set_page xs 0 z) (suc r) (sheets_set n xs 0 z zp hx) (side_head xs q 0 f (new_pages n) z hz b) (page_at_set xs 0 z (omega arith)))
  wipe_loop (suc j) k w k₁ xs hx um same m ev r p =
      let kn : k < n = omega arith in
      let lx : length xs ≡ n = hx.size in
      writes_0 (wiping k) k (zeros 512) (p ∙ wipes k k₁ kn) (omega arith) zeros_page
      (at_stop xs hx um) (at_stop _ (sheets_torn n xs k (zeros 512) kn zeros_page hx) (unmarked_set xs k _ k₁ um))
      (wipe_loop j (suc k) (omega arith) (omega arith) (set_page xs k (zeros 512)) (sheets_set n xs k (zeros 512) zeros_page hx) (unmarked_set xs k _ k₁ um)
      (λ i l₁ l₂. more i l₁ l₂ (eqb k i) refl) (wiping k) next (suc r) (goes k k₁ kn))
    where
      more : (i : ℕ) → 1 ≤ i → i < suc k → (b : Bool) → eqb k i ≡ b → page_at (set_page xs k (zeros 512)) i ≡ zeros 512
      more i l₁ l₂ true v = let lx : length xs ≡ n = hx.size in rw (sym (eqb-true k i v)) (page_at_set xs k (zeros 512) (omega arith))
      more i l₁ l₂ false v = let a : ¬ (k ≡ i) = eqb-false k i v in page_at_other xs k i (zeros 512) a ∙ same i l₁ (omega arith)

  pub wiped : (xs : List Page) → Sheets n xs → mark (page_at xs 0) ≡ false → (m : List ℕ) (ev : Event) (r : ℕ) → e.step m ev ≡ wipe 1 → Safe e K Q m xs ys ev ss r
  wiped xs hx um m ev r p = wipe_loop (n - 1) 1 (omega arith) (omega arith) xs hx um (λ i l₁ l₂. let no : ⊥ = omega arith in absurd no) m ev r p

-- THE REPLAY: each side's slots onto its homes, so that no page is kept in memory
module _ (e : Engine) (K : Crash) (Q : Ran → Type 0) (n : ℕ) (both : Bool) (s : List Page) (ss : List (List ℕ)) (q : Bool) (c : ℕ) (f : ℕ → ℕ)
    (replay : ℕ → Step) (getting_0 homing_0 getting_1 homing_1 : ℕ → List ℕ)
    (asks_0 : (i : ℕ) → i < c → replay i ≡ record { memory = getting_0 i; act = read 0 (slot q i) })
    (sets_0 : (i : ℕ) → i < c → (x : Page) → a_page x ≡ true → e.step (getting_0 i) (page x) ≡ record { memory = homing_0 i; act = write 0 (59 + f i) x })
    (asks_1 : (i : ℕ) → i < c → e.step (homing_0 i) next ≡ record { memory = getting_1 i; act = read 1 (slot q i) })
    (sets_1 : (i : ℕ) → i < c → (x : Page) → a_page x ≡ true → e.step (getting_1 i) (page x) ≡ record { memory = homing_1 i; act = write 1 (59 + f i) x })
    (sets_on : (i : ℕ) → i < c → e.step (homing_1 i) next ≡ replay (suc i))
    (at_stop : (xs ys : List Page) → Off n xs ys s s both → K xs ys ss)
    (then : (m : List ℕ) (xs ys : List Page) (ev : Event) (r : ℕ) → e.step m ev ≡ replay c → Up n xs ys s → Safe e K Q m xs ys ev ss r) where
  replay_loop : (j k : ℕ) → k + j ≡ c → (m : List ℕ) (xs ys : List Page) (ev : Event) (r : ℕ) → Homing n xs q c f s k → Homing n ys q c f s k →
      e.step m ev ≡ replay k → Safe e K Q m xs ys ev ss r
  replay_loop zero k w m xs ys ev r hx hy p =
      let kc : k ≡ c = omega arith in
      then m xs ys ev r (p ∙ ap replay kc) (up_homing n xs ys q c f s (subst (Homing n xs q c f s) kc hx) (subst (Homing n ys q c f s) kc hy))
  replay_loop (suc j) k w m xs ys ev r hx hy p =
      let kc : k < c = omega arith in
      let few = hx.side.body.few in
      let sb : slot q k < 59 = slot_below q k (omega arith) in
      let lx = hx.sheets.size in
      let b = homing_below n xs q c f s k kc hx in
      let x : Page = page_at xs (slot q k) in
      let xp : a_page x ≡ true = hx.sheets.valid (slot q k) (omega arith) in
      let y : Page = page_at ys (slot q k) in
      let yp : a_page y ≡ true = hy.sheets.valid (slot q k) (omega arith) in
      let hx₁ = homing_more n xs q c f s k kc hx x xp (hx.side.body.slots k kc) in
      let lx₁ = hx₁.sheets.size in
      let stop : (xs ys : List Page) (i j : ℕ) → Homing n xs q c f s i → Homing n ys q c f s j → K xs ys ss
      = λ xs ys i j hx hy. at_stop xs ys (off_homing n xs ys q c f s i j both hx hy) in
      reads_0 (getting_0 k) (slot q k) (p ∙ asks_0 k kc)
      (writes_0 (homing_0 k) (59 + f k) x (sets_0 k kc x xp) (omega arith) xp (stop xs ys k k hx hy) (stop _ ys 0 k (homing_torn n xs q c f s k kc hx x xp) hy)
      (reads_1 (getting_1 k) (slot q k) (asks_1 k kc)
      (writes_1 (homing_1 k) (59 + f k) y (sets_1 k kc y yp) (omega arith) yp (stop _ ys (suc k) k hx₁ hy) (stop _ _ (suc k) 0 hx₁ (homing_torn n ys q c f s k kc hy y yp))
      (replay_loop j (suc k) (omega arith) (homing_1 k) _ _ next (suc (suc (suc (suc r)))) hx₁ (homing_more n ys q c f s k kc hy y yp (hy.side.body.slots k kc)) (sets_on k kc)))))

  pub replays : (m : List ℕ) (xs ys : List Page) (ev : Event) (r : ℕ) → Sheets n xs → Sheets n ys → Side xs q c f s → Side ys q c f s → e.step m ev ≡ replay 0 → Safe e K Q m xs ys ev ss r
  replays m xs ys ev r hx hy sx sy p =
      replay_loop c 0 (omega arith) m xs ys ev r
      (record { sheets = hx; side = sx; done = λ i li. let no : ⊥ = omega arith in absurd no })
      (record { sheets = hy; side = sy; done = λ i li. let no : ⊥ = omega arith in absurd no }) p

-- Recovery as a whole: what an engine owes, act by act, and that from `Off` it ends in `Up`, with every stop `Off` again.
use Rattle.std.proofs.Common.{◌≡◌, ℕ, suc, ◌+◌, ◌<◌, ◌≤◌, Bool, true, false, not, ◌⊎◌, List, sym, refl, ap, ◌∙◌, inl, inr, arith}
use Rattle.pages.specs.Lists.{bit, pick}
use Rattle.pages.specs.Device.{Page, set_page, page_at, zeros, a_page}
use Rattle.pages.specs.Run.{Engine, Event, on, page, next, Act, read, write, Step, Ran}
use Rattle.pages.specs.Frame.{One}
use Rattle.pages.specs.Store.{mark, area, count, address, Heads, slot, Side, Sheets, Up, Twain, new_pages, Shape, twain, alone, none, Off}
use Rattle.pages.proofs.Safe.{Crash, Safe}
use Rattle.pages.proofs.Rules.{reads_0, reads_1, writes_1}
use Rattle.pages.proofs.Pages.{page_long}
use Rattle.pages.proofs.Store.{sheets_set, sheets_torn, body_head, side_torn, side_head, off_ahead}
use Rattle.pages.proofs.Recovery.{body_own, side_own, copies, wiped, replays}

-- a header that counts, within bounds, on a page
pub record Sound (n : ℕ) (p : Page) : Type 0 where
  pub marks : mark p ≡ true
  pub few : count p ≤ 29
  pub named : (i : ℕ) → i < count p → 59 + address p i < n
  pub valid : a_page p ≡ true

abbrev pub does : List ℕ → Act → Step
does m a = record { memory = m; act = a }

-- the acts of power coming up; p is the header of the side that is the source, and where it matters which one that is, d says it
pub record Recovery (e : Engine) (n : ℕ) : Type 0 where
  -- the header written to the other side, and the header of a new store
  pub renew : Page → Page
  pub fresh : Page
  pub renews : (p : Page) → Sound n p → Heads (renew p) (area p) (count p) (address p)
  pub renews_page : (p : Page) → Sound n p → a_page (renew p) ≡ true
  pub fresh_marks : mark fresh ≡ true
  pub fresh_none : count fresh ≡ 0
  pub fresh_page : a_page fresh ≡ true
  -- both headers are read
  pub asked_0 : List ℕ
  pub asked_1 : Page → List ℕ
  pub decide : Page → Page → Step
  pub wipe : ℕ → Step
  pub copy : Bool → Page → ℕ → Step
  pub replay : Page → ℕ → Step
  pub mending : Page → List ℕ
  pub first : e.step e.start (on n) ≡ does asked_0 (read 0 0)
  pub second : (p : Page) → a_page p ≡ true → e.step asked_0 (page p) ≡ does (asked_1 p) (read 1 0)
  pub third : (p p₁ : Page) → a_page p ≡ true → a_page p₁ ≡ true → e.step (asked_1 p) (page p₁) ≡ decide p p₁
  pub neither : (p p₁ : Page) → mark p ≡ false → mark p₁ ≡ false → decide p p₁ ≡ wipe 1
  pub only_0 : (p p₁ : Page) → Sound n p → mark p₁ ≡ false → decide p p₁ ≡ copy false p 1
  pub only_1 : (p p₁ : Page) → mark p ≡ false → Sound n p₁ → decide p p₁ ≡ copy true p₁ 1
  pub both : (p p₁ : Page) → Sound n p → a_page p₁ ≡ true → mark p₁ ≡ true → decide p p₁ ≡ does (mending p) (write 1 0 (renew p))
  pub mended : (p : Page) → Sound n p → e.step (mending p) next ≡ replay p 0
  -- blank pages on side 0
  pub wiping : ℕ → List ℕ
  pub marking : List ℕ
  pub wipes : (k : ℕ) → 1 ≤ k → k < n → wipe k ≡ does (wiping k) (write 0 k (zeros 512))
  pub wipes_on : (k : ℕ) → 1 ≤ k → k < n → e.step (wiping k) next ≡ wipe (suc k)
  pub wipes_end : wipe n ≡ does marking (write 0 0 fresh)
  pub wiped_all : e.step marking next ≡ copy false fresh 1
  -- the copy
  pub reading : Bool → Page → ℕ → List ℕ
  pub writing : Bool → Page → ℕ → List ℕ
  pub heading : Bool → Page → List ℕ
  pub copies_ask : (d : Bool) (p : Page) → Sound n p → (k : ℕ) → 1 ≤ k → k < n → copy d p k ≡ does (reading d p k) (read (bit d) k)
  pub copies_put : (d : Bool) (p : Page) → Sound n p → (k : ℕ) (x : Page) → a_page x ≡ true → 1 ≤ k → k < n →
      e.step (reading d p k) (page x) ≡ does (writing d p k) (write (bit (not d)) k x)
  pub copies_on : (d : Bool) (p : Page) → Sound n p → (k : ℕ) → 1 ≤ k → k < n → e.step (writing d p k) next ≡ copy d p (suc k)
  pub copies_end : (d : Bool) (p : Page) → Sound n p → copy d p n ≡ does (heading d p) (write (bit (not d)) 0 (renew p))
  pub copied : (d : Bool) (p : Page) → Sound n p → e.step (heading d p) next ≡ replay p 0
  -- the replay, each side from its own slots
  pub getting_0 : Page → ℕ → List ℕ
  pub homing_0 : Page → ℕ → List ℕ
  pub getting_1 : Page → ℕ → List ℕ
  pub homing_1 : Page → ℕ → List ℕ
  pub replays_ask_0 : (p : Page) → Sound n p → (i : ℕ) → i < count p → replay p i ≡ does (getting_0 p i) (read 0 (slot (area p) i))
  pub replays_put_0 : (p : Page) → Sound n p → (i : ℕ) → i < count p → (x : Page) → a_page x ≡ true →
      e.step (getting_0 p i) (page x) ≡ does (homing_0 p i) (write 0 (59 + address p i) x)
  pub replays_ask_1 : (p : Page) → Sound n p → (i : ℕ) → i < count p → e.step (homing_0 p i) next ≡ does (getting_1 p i) (read 1 (slot (area p) i))
  pub replays_put_1 : (p : Page) → Sound n p → (i : ℕ) → i < count p → (x : Page) → a_page x ≡ true →
      e.step (getting_1 p i) (page x) ≡ does (homing_1 p i) (write 1 (59 + address p i) x)
  pub replays_on : (p : Page) → Sound n p → (i : ℕ) → i < count p → e.step (homing_1 p i) next ≡ replay p (suc i)

pub sound_side : (n : ℕ) (xs : List Page) (q : Bool) (c : ℕ) (f : ℕ → ℕ) (s : List Page) → Sheets n xs → Side xs q c f s → Sound n (page_at xs 0)
sound_side n xs q c f s hx h =
    let o = side_own xs q c f s h in
    let l = h.body.long in
    let l₁ = hx.size in
    record {
      marks = h.head.marks;
      few = o.body.few;
      named = λ i li. let a = o.body.named i li in omega arith;
      valid = hx.valid 0 (omega arith);
    }

pub off_alone : (n : ℕ) (d : Bool) (src dst : List Page) (q : Bool) (c : ℕ) (f : ℕ → ℕ) (s : List Page) (both : Bool) → Sheets n src → Sheets n dst → Side src q c f s →
    mark (page_at dst 0) ≡ false → (both ≡ false) ⊎ (s ≡ new_pages n) → Off n (pick d dst src) (pick d src dst) s s both
off_alone n true src dst q c f s both hs hd h um w =
    let l = h.body.long in
    let l₁ = hs.size in
    record { room = omega arith; sheets_0 = hd; sheets_1 = hs; shape = alone true (record { q = q; c = c; f = f; counts = h; knows_nothing = um }) refl w }
off_alone n false src dst q c f s both hs hd h um w =
    let l = h.body.long in
    let l₁ = hs.size in
    record { room = omega arith; sheets_0 = hs; sheets_1 = hd; shape = alone false (record { q = q; c = c; f = f; counts = h; knows_nothing = um }) refl w }

pick_both : (P : List Page → Type 0) (d : Bool) (x y : List Page) → P x → P y → P (pick d x y)
pick_both P true x y h k = h
pick_both P false x y h k = k

module _ (e : Engine) (K : Crash) (Q : Ran → Type 0) (n : ℕ) (R : Recovery e n) (a b : List Page) (both : Bool) (ss : List (List ℕ))
    (at_stop : (xs ys a₁ b₁ : List Page) → One a₁ a b → One b₁ a b → Off n xs ys a₁ b₁ both → K xs ys ss)
    (then : (p : Page) → Sound n p → (s : List Page) → One s a b → (m : List ℕ) (xs ys : List Page) (ev : Event) (r : ℕ) →
    e.step m ev ≡ R.replay p (count p) → Up n xs ys s → Safe e K Q m xs ys ev ss r) where
  replay_part : (p : Page) → Sound n p → (s : List Page) → One s a b → (m : List ℕ) (xs ys : List Page) (ev : Event) (r : ℕ) → Sheets n xs → Sheets n ys →
      Side xs (area p) (count p) (address p) s → Side ys (area p) (count p) (address p) s → e.step m ev ≡ R.replay p 0 → Safe e K Q m xs ys ev ss r
  replay_part p sp s os m xs ys ev r hx hy sx sy q =
      replays e K Q n both s ss (area p) (count p) (address p) (R.replay p) (R.getting_0 p) (R.homing_0 p) (R.getting_1 p) (R.homing_1 p)
      (R.replays_ask_0 p sp) (R.replays_put_0 p sp) (R.replays_ask_1 p sp) (R.replays_put_1 p sp) (R.replays_on p sp)
      (λ xs ys o. at_stop xs ys s s os os o) (then p sp s os) m xs ys ev r hx hy sx sy q

  copy_part : (d : Bool) (src dst : List Page) (q : Bool) (c : ℕ) (f : ℕ → ℕ) (s : List Page) → One s a b → Sheets n src → Sheets n dst → Side src q c f s →
      mark (page_at dst 0) ≡ false → (both ≡ false) ⊎ (s ≡ new_pages n) → (m : List ℕ) (ev : Event) (r : ℕ) → e.step m ev ≡ R.copy d (page_at src 0) 1 →
      Safe e K Q m (pick d dst src) (pick d src dst) ev ss r
  copy_part d src dst q c f s os hs hd h um w m ev r eq =
      let p = page_at src 0 in
      let sp : Sound n p = sound_side n src q c f s hs h in
      let ho : Side src (area p) (count p) (address p) s = side_own src q c f s h in
      copies e K Q n d src s ss (area p) (count p) (address p) (R.renew p) (R.renews p sp) (R.renews_page p sp) ho hs (R.copy d p) (R.reading d p) (R.writing d p) (R.heading d p)
      (R.copies_ask d p sp) (R.copies_put d p sp) (R.copies_on d p sp) (R.copies_end d p sp)
      (λ dst₁ hd₁ um₁. at_stop _ _ s s os os (off_alone n d src dst₁ q c f s both hs hd₁ h um₁ w))
      (λ dst₁ r₁ hd₁ h₁. replay_part p sp s os (R.heading d p) _ _ next r₁ (pick_both (Sheets n) d dst₁ src hd₁ hs) (pick_both (Sheets n) d src dst₁ hs hd₁)
      (pick_both (λ x. Side x (area p) (count p) (address p) s) d dst₁ src h₁ ho) (pick_both (λ x. Side x (area p) (count p) (address p) s) d src dst₁ ho h₁) (R.copied d p sp))
      dst hd um m ev r eq

  module _ (xs ys : List Page) (h : Off n xs ys a b both) (m : List ℕ) (r : ℕ) where
    twain_part : (t : Twain xs ys a b) → e.step m (page (page_at ys 0)) ≡ R.decide (page_at xs 0) (page_at ys 0) → Safe e K Q m xs ys (page (page_at ys 0)) ss r
    twain_part t eq =
        let p = page_at xs 0 in
        let z = R.renew p in
        let hx = h.sheets_0 in
        let hy = h.sheets_1 in
        let sp : Sound n p = sound_side n xs t.q t.c t.f a hx t.ahead in
        let zp = R.renews_page p sp in
        let sx = side_own xs t.q t.c t.f a t.ahead in
        let by = body_own ys p t.q t.c t.f a t.ahead.head t.ready in
        let l = h.room in
        let lx = hx.size in
        let my = t.behind.head.marks in
        writes_1 (R.mending p) 0 z (eq ∙ R.both p (page_at ys 0) sp (hy.valid 0 (omega arith)) my) (omega arith) zp (at_stop xs ys a b (inl refl) (inr refl) h)
        (at_stop xs _ a b (inl refl) (inr refl)
        (off_ahead n xs _ t.q t.c t.f t.q₁ t.c₁ t.f₁ a b both hx (sheets_torn n ys 0 z (omega arith) zp hy) t.ahead
        (side_torn ys t.q₁ t.c₁ t.f₁ b z (page_long z zp) t.behind) (body_head ys t.q t.c t.f a _ t.ready)))
        (replay_part p sp a (inl refl) (R.mending p) xs (set_page ys 0 z) next (suc r) hx (sheets_set n ys 0 z zp hy) sx
        (side_head ys (area p) (count p) (address p) a z (R.renews p sp) by) (R.mended p sp))

    shape_part : Shape n xs ys a b both → e.step m (page (page_at ys 0)) ≡ R.decide (page_at xs 0) (page_at ys 0) → Safe e K Q m xs ys (page (page_at ys 0)) ss r
    shape_part (twain t) eq = twain_part t eq
    shape_part (alone true x ab w) eq =
        copy_part true ys xs x.q x.c x.f a (inl refl) h.sheets_1 h.sheets_0 x.counts x.knows_nothing w m _ r
        (eq ∙ R.only_1 _ _ x.knows_nothing (sound_side n ys x.q x.c x.f a h.sheets_1 x.counts))
    shape_part (alone false x ab w) eq =
        copy_part false xs ys x.q x.c x.f a (inl refl) h.sheets_0 h.sheets_1 x.counts x.knows_nothing w m _ r
        (eq ∙ R.only_0 _ _ (sound_side n xs x.q x.c x.f a h.sheets_0 x.counts) x.knows_nothing)
    shape_part (none ux uy ea eb) eq =
        let z = R.fresh in
        wiped e K Q n h.room ys ss (area z) (address z) z (record { marks = R.fresh_marks; which = refl; many = R.fresh_none; names = λ i li. refl }) R.fresh_page
        R.wipe R.wiping R.marking R.wipes R.wipes_on R.wipes_end
        (λ xs₁ hx₁ ux₁. at_stop xs₁ ys a b (inl refl) (inr refl) (record { room = h.room; sheets_0 = hx₁; sheets_1 = h.sheets_1; shape = none ux₁ uy ea eb }))
        (λ xs₁ r₁ hx₁ h₁ ze. copy_part false xs₁ ys (area z) 0 (address z) (new_pages n) (inl (sym ea)) hx₁ h.sheets_1 h₁ uy (inr refl) R.marking next r₁
        (R.wiped_all ∙ ap (λ w. R.copy false w 1) (sym ze)))
        xs h.sheets_0 ux m _ r (eq ∙ R.neither _ _ ux uy)

  pub recovers : (xs ys : List Page) → Off n xs ys a b both → (r : ℕ) → Safe e K Q e.start xs ys (on n) ss r
  recovers xs ys h r =
      let l = h.room in
      let vx = h.sheets_0.valid 0 (omega arith) in
      let vy = h.sheets_1.valid 0 (omega arith) in
      reads_0 R.asked_0 0 R.first
      (reads_1 (R.asked_1 (page_at xs 0)) 0 (R.second (page_at xs 0) vx)
      (shape_part xs ys h (R.asked_1 (page_at xs 0)) (suc (suc r)) h.shape (R.third (page_at xs 0) (page_at ys 0) vx vy)))

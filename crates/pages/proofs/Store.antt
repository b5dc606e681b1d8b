-- What writes leave of a side of the mirrored store.
use Rattle.std.proofs.Common.{◌≡◌, ℕ, zero, suc, ◌+◌, ◌<◌, ◌≤◌, Bool, true, false, not, eqb, ◌⊎◌, List, length, sym, refl, ap, ◌∙◌, subst, inl, inr, true≢false, arith}
use Rattle.std.proofs.lemmas.Bool.{eqb-true, eqb-false}
use Rattle.pages.specs.Device.{Page, set_page, page_at, half, zeros, blank, a_page}
use Rattle.pages.specs.Bytes.{from_eight}
use Rattle.pages.specs.Fields.{number, at}
use Rattle.pages.specs.Frame.{One}
use Rattle.pages.specs.Store.{head_number, mark, Heads, slot, Body, Side, Applied, Sheets, Changed, Up, new_pages, Shape, twain, alone, none, Off}
use Rattle.pages.proofs.Header.{torn_heads}
use Rattle.pages.proofs.Pages.{length_set_page, page_at_set, page_at_other, length_blank, blank_at, zeros_page, half_page}

-- SHEETS
pub sheets_set : (n : ℕ) (xs : List Page) (k : ℕ) (z : Page) → a_page z ≡ true → Sheets n xs → Sheets n (set_page xs k z)
sheets_set n xs k z hz h =
    record { size = length_set_page xs k z ∙ h.size; valid = λ j lj. go j lj (eqb k j) refl }
  where
    go : (j : ℕ) → j < n → (b : Bool) → eqb k j ≡ b → a_page (page_at (set_page xs k z) j) ≡ true
    go j lj true w = let e : k ≡ j = eqb-true k j w in let l = h.size in rw (sym e) (rw (page_at_set xs k z (omega arith)) hz)
    go j lj false w = rw (page_at_other xs k j z (eqb-false k j w)) (h.valid j lj)

pub sheets_torn : (n : ℕ) (xs : List Page) (k : ℕ) (z : Page) → k < n → a_page z ≡ true → Sheets n xs → Sheets n (set_page xs k (half z (page_at xs k)))
sheets_torn n xs k z l hz h = sheets_set n xs k _ (half_page z (page_at xs k) hz (h.valid k l)) h

-- PLACES
pub slot_head : (q : Bool) (i : ℕ) → ¬ (slot q i ≡ 0)
slot_head true i = omega arith
slot_head false i = omega arith

pub slots_apart : (q : Bool) (i j : ℕ) → i < 29 → j < 29 → ¬ (slot (not q) i ≡ slot q j)
slots_apart true i j h k = omega arith
slots_apart false i j h k = omega arith

pub slot_other : (q : Bool) (i j : ℕ) → ¬ (i ≡ j) → ¬ (slot q i ≡ slot q j)
slot_other true i j h = omega arith
slot_other false i j h = omega arith

pub slot_home : (q : Bool) (i k : ℕ) → i < 29 → ¬ (slot q i ≡ 59 + k)
slot_home true i k h = omega arith
slot_home false i k h = omega arith

pub slot_below : (q : Bool) (i : ℕ) → i < 29 → slot q i < 59
slot_below true i h = omega arith
slot_below false i h = omega arith

-- THE FRAME: any page whatever may come into the area that does not count, onto a hidden home page, onto the header
module _ (xs : List Page) (q : Bool) (c : ℕ) (f : ℕ → ℕ) (s : List Page) (z : Page) where
  pub body_slot : (i : ℕ) → i < 29 → Body xs q c f s → Body (set_page xs (slot (not q) i) z) q c f s
  body_slot i l h =
      let few : c ≤ 29 = h.few in
      record {
        few = h.few;
        long = length_set_page xs (slot (not q) i) z ∙ h.long;
        named = h.named;
        slots = λ j lj. page_at_other xs _ _ z (slots_apart q i j l (omega arith)) ∙ h.slots j lj;
        homes = λ k lk hk. page_at_other xs _ _ z (slot_home (not q) i k l) ∙ h.homes k lk hk;
      }

  pub body_home : (i : ℕ) → i < c → Body xs q c f s → Body (set_page xs (59 + f i) z) q c f s
  body_home i l h =
      let few : c ≤ 29 = h.few in
      record {
        few = h.few;
        long = length_set_page xs (59 + f i) z ∙ h.long;
        named = h.named;
        slots = λ j lj. page_at_other xs _ _ z (λ w. slot_home q j (f i) (omega arith) (sym w)) ∙ h.slots j lj;
        homes = λ k lk hk. let a : ¬ (f i ≡ k) = hk i l in page_at_other xs _ _ z (omega arith) ∙ h.homes k lk hk;
      }

  pub body_head : Body xs q c f s → Body (set_page xs 0 z) q c f s
  body_head h =
      record {
        few = h.few;
        long = length_set_page xs 0 z ∙ h.long;
        named = h.named;
        slots = λ j lj. page_at_other xs _ _ z (λ w. slot_head q j (sym w)) ∙ h.slots j lj;
        homes = λ k lk hk. page_at_other xs 0 (59 + k) z (omega arith) ∙ h.homes k lk hk;
      }

  pub side_slot : (i : ℕ) → i < 29 → Side xs q c f s → Side (set_page xs (slot (not q) i) z) q c f s
  side_slot i l h = record { head = rw (page_at_other xs _ 0 z (slot_head (not q) i)) h.head; body = body_slot i l h.body }

  pub side_home : (i : ℕ) → i < c → Side xs q c f s → Side (set_page xs (59 + f i) z) q c f s
  side_home i l h = record { head = rw (page_at_other xs (59 + f i) 0 z (omega arith)) h.head; body = body_home i l h.body }

  pub side_torn : length z ≡ 512 → Side xs q c f s → Side (set_page xs 0 (half z (page_at xs 0))) q c f s
  side_torn l h =
      let w : length xs ≡ 59 + length s = h.body.long in
      record {
        head = rw (page_at_set xs 0 (half z (page_at xs 0)) (omega arith)) (torn_heads z (page_at xs 0) q c f l h.head);
        body = record {
          few = h.body.few;
          long = length_set_page xs 0 _ ∙ h.body.long;
          named = h.body.named;
          slots = λ j lj. page_at_other xs _ _ _ (λ w. slot_head q j (sym w)) ∙ h.body.slots j lj;
          homes = λ k lk hk. page_at_other xs 0 (59 + k) _ (omega arith) ∙ h.body.homes k lk hk;
        };
      }

  -- a header over pages that are ready for it
  pub side_head : Heads z q c f → Body xs q c f s → Side (set_page xs 0 z) q c f s
  side_head hz h =
      let w : length xs ≡ 59 + length s = h.long in
      record { head = rw (page_at_set xs 0 z (omega arith)) hz; body = body_head h }

-- with complete slots the pages are ready for the header of a commit
pub body_ready : (xs : List Page) (q : Bool) (c : ℕ) (f : ℕ → ℕ) (g : ℕ → Page) (s t : List Page) → length xs ≡ 59 + length s → Applied xs s → Changed s c f g t →
    ((i : ℕ) → i < c → page_at xs (slot q i) ≡ g i) → Body xs q c f t
body_ready xs q c f g s t l ap₁ ch h =
    let e : length t ≡ length s = ch.size in
    record {
      few = ch.few;
      long = omega arith;
      named = λ i li. rw e (ch.named i li);
      slots = λ i li. h i li ∙ sym (ch.put i li);
      homes = λ k lk hk. ap₁ k (omega arith) ∙ sym (ch.kept k (omega arith) hk);
    }

-- is a number among some
pub data Among (c : ℕ) (f : ℕ → ℕ) (k : ℕ) : Type 0 where
  found : (i : ℕ) → i < c → f i ≡ k → Among c f k
  nowhere : ((i : ℕ) → i < c → ¬ (f i ≡ k)) → Among c f k

pub among : (c : ℕ) (f : ℕ → ℕ) (k : ℕ) → Among c f k
among zero f k = nowhere (λ i li. let no : ⊥ = omega arith in absurd no)
among (suc c) f k = go (eqb (f c) k) refl (among c f k)
  where
    go : (b : Bool) → eqb (f c) k ≡ b → Among c f k → Among (suc c) f k
    go true w m = found c (omega arith) (eqb-true _ _ w)
    go false w (found i li e) = found i (omega arith) e
    go false w (nowhere h) = nowhere (λ i li. below i li (eqb i c) refl)
      where
        below : (i : ℕ) → i < suc c → (b : Bool) → eqb i c ≡ b → ¬ (f i ≡ k)
        below i li true v = rw (eqb-true i c v) (eqb-false _ _ w)
        below i li false v = let a : ¬ (i ≡ c) = eqb-false i c v in h i (omega arith)

-- so many addresses are replayed; when all are, all home pages are current
pub replay_more : (xs : List Page) (f : ℕ → ℕ) (s : List Page) (j : ℕ) → 59 + f j < length xs → ((i : ℕ) → i < j → page_at xs (59 + f i) ≡ page_at s (f i)) → (z : Page) →
    z ≡ page_at s (f j) → (i : ℕ) → i < suc j → page_at (set_page xs (59 + f j) z) (59 + f i) ≡ page_at s (f i)
replay_more xs f s j l h z e i li = go (eqb (f i) (f j)) refl
  where
    go : (b : Bool) → eqb (f i) (f j) ≡ b → page_at (set_page xs (59 + f j) z) (59 + f i) ≡ page_at s (f i)
    go true w = rw (eqb-true _ _ w) (page_at_set xs (59 + f j) z l ∙ e)
    go false w =
        let a : ¬ (f i ≡ f j) = eqb-false _ _ w in
        let b : ¬ (i ≡ j) = λ v. a (ap f v) in
        page_at_other xs (59 + f j) (59 + f i) z (omega arith) ∙ h i (omega arith)

pub replayed : (xs : List Page) (q : Bool) (c : ℕ) (f : ℕ → ℕ) (s : List Page) → Body xs q c f s → ((i : ℕ) → i < c → page_at xs (59 + f i) ≡ page_at s (f i)) → Applied xs s
replayed xs q c f s h r k lk = go (among c f k)
  where
    go : Among c f k → page_at xs (59 + k) ≡ page_at s k
    go (found i li e) = subst (λ k. page_at xs (59 + k) ≡ page_at s k) e (r i li)
    go (nowhere hk) = h.homes k lk hk

-- BOTH SIDES without power
pub off_ahead : (n : ℕ) (xs ys : List Page) (q : Bool) (c : ℕ) (f : ℕ → ℕ) (q₁ : Bool) (c₁ : ℕ) (f₁ : ℕ → ℕ) (a b : List Page) (both : Bool) → Sheets n xs → Sheets n ys →
    Side xs q c f a → Side ys q₁ c₁ f₁ b → Body ys q c f a → Off n xs ys a b both
off_ahead n xs ys q c f q₁ c₁ f₁ a b both hx hy h k r =
    let l = h.body.long in
    let l₁ = hx.size in
    record {
      room = omega arith;
      sheets_0 = hx;
      sheets_1 = hy;
      shape = twain (record { q = q; c = c; f = f; q₁ = q₁; c₁ = c₁; f₁ = f₁; ahead = h; behind = k; ready = r });
    }

pub off_equal : (n : ℕ) (xs ys : List Page) (q : Bool) (c : ℕ) (f : ℕ → ℕ) (s : List Page) (both : Bool) → Sheets n xs → Sheets n ys → Side xs q c f s → Side ys q c f s → Off n xs ys s s both
off_equal n xs ys q c f s both hx hy h k = off_ahead n xs ys q c f q c f s s both hx hy h k k.body

pub up_quiet : (n : ℕ) (xs ys s : List Page) → Up n xs ys s → Off n xs ys s s true
up_quiet n xs ys s u = off_equal n xs ys u.q u.c u.f s true u.sheets_0 u.sheets_1 u.side_0 u.side_1

pub off_weaken : (n : ℕ) (xs ys s : List Page) → Off n xs ys s s true → Off n xs ys s s false
off_weaken n xs ys s h = record { room = h.room; sheets_0 = h.sheets_0; sheets_1 = h.sheets_1; shape = go h.shape }
  where
    go : Shape n xs ys s s true → Shape n xs ys s s false
    go (twain t) = twain t
    go (alone d x e w) = alone d x e (inl refl)
    go (none p q a b) = none p q a b

-- HOMES: a side whose header counts, with so many of its addresses brought home
pub record Homing (n : ℕ) (xs : List Page) (q : Bool) (c : ℕ) (f : ℕ → ℕ) (s : List Page) (j : ℕ) : Type 0 where
  pub sheets : Sheets n xs
  pub side : Side xs q c f s
  pub done : (i : ℕ) → i < j → page_at xs (59 + f i) ≡ page_at s (f i)

module _ (n : ℕ) (xs : List Page) (q : Bool) (c : ℕ) (f : ℕ → ℕ) (s : List Page) (j : ℕ) (l : j < c) (h : Homing n xs q c f s j) where
  pub homing_below : 59 + f j < n
  homing_below = let a = h.side.body.named j l in let b = h.side.body.long in let d = h.sheets.size in omega arith

  pub homing_more : (z : Page) → a_page z ≡ true → z ≡ page_at s (f j) → Homing n (set_page xs (59 + f j) z) q c f s (suc j)
  homing_more z hz e =
      let b = homing_below in
      let d = h.sheets.size in
      record {
        sheets = sheets_set n xs (59 + f j) z hz h.sheets;
        side = side_home xs q c f s z j l h.side;
        done = replay_more xs f s j (omega arith) h.done z e;
      }

  pub homing_torn : (z : Page) → a_page z ≡ true → Homing n (set_page xs (59 + f j) (half z (page_at xs (59 + f j)))) q c f s 0
  homing_torn z hz =
      record {
        sheets = sheets_torn n xs (59 + f j) z homing_below hz h.sheets;
        side = side_home xs q c f s _ j l h.side;
        done = λ i li. let no : ⊥ = omega arith in absurd no;
      }

pub off_homing : (n : ℕ) (xs ys : List Page) (q : Bool) (c : ℕ) (f : ℕ → ℕ) (s : List Page) (i j : ℕ) (both : Bool) → Homing n xs q c f s i → Homing n ys q c f s j → Off n xs ys s s both
off_homing n xs ys q c f s i j both h k = off_equal n xs ys q c f s both h.sheets k.sheets h.side k.side

pub up_homing : (n : ℕ) (xs ys : List Page) (q : Bool) (c : ℕ) (f : ℕ → ℕ) (s : List Page) → Homing n xs q c f s c → Homing n ys q c f s c → Up n xs ys s
up_homing n xs ys q c f s h k =
    record {
      q = q;
      c = c;
      f = f;
      sheets_0 = h.sheets;
      sheets_1 = k.sheets;
      side_0 = h.side;
      side_1 = k.side;
      applied_0 = replayed xs q c f s h.side.body h.done;
      applied_1 = replayed ys q c f s k.side.body k.done;
    }

-- A SIDE IS LOST
pub zeros_unmarked : mark (zeros 512) ≡ false
unfolding zeros mark head_number at number from_eight
zeros_unmarked = refl

pub blank_sheets : (n : ℕ) → Sheets n (blank n)
blank_sheets n = record { size = length_blank n; valid = λ k l. rw (blank_at n k l) zeros_page }

pub blank_unmarked : (n : ℕ) → 59 ≤ n → mark (page_at (blank n) 0) ≡ false
blank_unmarked n h = rw (blank_at n 0 (omega arith)) zeros_unmarked

pub off_new : (n : ℕ) (both : Bool) → 59 ≤ n → Off n (blank n) (blank n) (new_pages n) (new_pages n) both
off_new n both h =
    record { room = h; sheets_0 = blank_sheets n; sheets_1 = blank_sheets n; shape = none (blank_unmarked n h) (blank_unmarked n h) refl refl }

was_new : (n : ℕ) (a : List Page) → (true ≡ false) ⊎ (a ≡ new_pages n) → a ≡ new_pages n
was_new n a (inl w) = absurd (true≢false w)
was_new n a (inr w) = w

module _ (n : ℕ) (xs ys a b : List Page) (h : Off n xs ys a b true) where
  lose_0_at : Shape n xs ys a b true → (c : List Page) × One c a b × Off n (blank n) ys c c false
  lose_0_at (twain t) = (
    b,
    inr refl,
    record {
      room = h.room;
      sheets_0 = blank_sheets n;
      sheets_1 = h.sheets_1;
      shape = alone true (record { q = t.q₁; c = t.c₁; f = t.f₁; counts = t.behind; knows_nothing = blank_unmarked n h.room }) refl (inl refl);
    },
  )
  lose_0_at (alone true x e w) = (
    a,
    inl refl,
    record {
      room = h.room;
      sheets_0 = blank_sheets n;
      sheets_1 = h.sheets_1;
      shape = alone true (record { q = x.q; c = x.c; f = x.f; counts = x.counts; knows_nothing = blank_unmarked n h.room }) refl (inl refl);
    },
  )
  lose_0_at (alone false x e w) = (
    a,
    inl refl,
    record {
      room = h.room;
      sheets_0 = blank_sheets n;
      sheets_1 = h.sheets_1;
      shape = none (blank_unmarked n h.room) x.knows_nothing (was_new n a w) (was_new n a w);
    },
  )
  lose_0_at (none p q ea eb) =
      (a, inl refl, record { room = h.room; sheets_0 = blank_sheets n; sheets_1 = h.sheets_1; shape = none (blank_unmarked n h.room) q ea ea })

  lose_1_at : Shape n xs ys a b true → (c : List Page) × One c a b × Off n xs (blank n) c c false
  lose_1_at (twain t) = (
    a,
    inl refl,
    record {
      room = h.room;
      sheets_0 = h.sheets_0;
      sheets_1 = blank_sheets n;
      shape = alone false (record { q = t.q; c = t.c; f = t.f; counts = t.ahead; knows_nothing = blank_unmarked n h.room }) refl (inl refl);
    },
  )
  lose_1_at (alone false x e w) = (
    a,
    inl refl,
    record {
      room = h.room;
      sheets_0 = h.sheets_0;
      sheets_1 = blank_sheets n;
      shape = alone false (record { q = x.q; c = x.c; f = x.f; counts = x.counts; knows_nothing = blank_unmarked n h.room }) refl (inl refl);
    },
  )
  lose_1_at (alone true x e w) = (
    a,
    inl refl,
    record {
      room = h.room;
      sheets_0 = h.sheets_0;
      sheets_1 = blank_sheets n;
      shape = none x.knows_nothing (blank_unmarked n h.room) (was_new n a w) (was_new n a w);
    },
  )
  lose_1_at (none p q ea eb) =
      (a, inl refl, record { room = h.room; sheets_0 = h.sheets_0; sheets_1 = blank_sheets n; shape = none p (blank_unmarked n h.room) ea ea })

  pub lose_0 : (c : List Page) × One c a b × Off n (blank (length xs)) ys c c false
  lose_0 = rw h.sheets_0.size (lose_0_at h.shape)

  pub lose_1 : (c : List Page) × One c a b × Off n xs (blank (length ys)) c c false
  lose_1 = rw h.sheets_1.size (lose_1_at h.shape)

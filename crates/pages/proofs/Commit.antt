-- A commit: slots on both sides, header on side 0, header on side 1, homes on both; for any engine that does these acts.
use Rattle.std.proofs.Common.{◌≡◌, ℕ, zero, suc, ◌+◌, ◌*◌, ◌<◌, Bool, true, false, not, eqb, List, sym, refl, ap, ◌∙◌, subst, inl, inr, arith}
use Rattle.std.proofs.lemmas.Bool.{eqb-true, eqb-false}
use Rattle.pages.specs.Device.{Page, set_page, page_at, half, a_page}
use Rattle.pages.specs.Run.{Engine, Event, next, write, Step, Ran}
use Rattle.pages.specs.Frame.{One}
use Rattle.pages.specs.Store.{Heads, slot, Body, Side, Applied, Sheets, Changed, Up, Off}
use Rattle.pages.proofs.Safe.{Crash, Safe}
use Rattle.pages.proofs.Rules.{writes_0, writes_1}
use Rattle.pages.proofs.Pages.{page_at_set, page_at_other, page_long}
use Rattle.pages.proofs.Store.{sheets_set, sheets_torn, slot_other, slot_home, slot_below, body_head, side_slot, side_torn, side_head, body_ready, off_ahead, off_equal, Homing, homing_below, homing_more, homing_torn, off_homing, up_homing}

-- one side while the slots are written
record Wing (n : ℕ) (xs : List Page) (q : Bool) (c : ℕ) (f : ℕ → ℕ) (s : List Page) (g : ℕ → Page) (j : ℕ) : Type 0 where
  pub sheets : Sheets n xs
  pub side : Side xs q c f s
  pub applied : Applied xs s
  pub done : (i : ℕ) → i < j → page_at xs (slot (not q) i) ≡ g i

module _ (n : ℕ) (xs : List Page) (q : Bool) (c : ℕ) (f : ℕ → ℕ) (s : List Page) (g : ℕ → Page) (j : ℕ) (l : j < 29) (h : Wing n xs q c f s g j) where
  wing_below : slot (not q) j < n
  wing_below = let a = slot_below (not q) j l in let b = h.side.body.long in let d = h.sheets.size in omega arith

  wing_more : a_page (g j) ≡ true → Wing n (set_page xs (slot (not q) j) (g j)) q c f s g (suc j)
  wing_more hz =
      record {
        sheets = sheets_set n xs (slot (not q) j) (g j) hz h.sheets;
        side = side_slot xs q c f s (g j) j l h.side;
        applied = λ k lk. page_at_other xs _ _ (g j) (slot_home (not q) j k l) ∙ h.applied k lk;
        done = λ i li. go i li (eqb j i) refl;
      }
    where
      go : (i : ℕ) → i < suc j → (b : Bool) → eqb j i ≡ b → page_at (set_page xs (slot (not q) j) (g j)) (slot (not q) i) ≡ g i
      go i li true w = let b = wing_below in let d = h.sheets.size in rw (sym (eqb-true j i w)) (page_at_set xs (slot (not q) j) (g j) (omega arith))
      go i li false w = let a : ¬ (j ≡ i) = eqb-false j i w in page_at_other xs _ _ (g j) (slot_other (not q) j i a) ∙ h.done i (omega arith)

  wing_torn_sheets : a_page (g j) ≡ true → Sheets n (set_page xs (slot (not q) j) (half (g j) (page_at xs (slot (not q) j))))
  wing_torn_sheets hz = sheets_torn n xs (slot (not q) j) (g j) wing_below hz h.sheets

  wing_torn_side : Side (set_page xs (slot (not q) j) (half (g j) (page_at xs (slot (not q) j)))) q c f s
  wing_torn_side = side_slot xs q c f s _ j l h.side

module _ (e : Engine) (K : Crash) (Q : Ran → Type 0) (n : ℕ) (s t : List Page) (ss : List (List ℕ)) (r₀ : ℕ)
    -- the header as it is, the header that is written, and the pages g at the addresses f₁
    (q : Bool) (c : ℕ) (f : ℕ → ℕ) (c₁ : ℕ) (f₁ : ℕ → ℕ) (g : ℕ → Page) (z : Page) (hz : Heads z (not q) c₁ f₁) (zp : a_page z ≡ true) (ch : Changed s c₁ f₁ g t)
    -- the steps at the heads of the two loops, and memory while each write is under way
    (slots homes : ℕ → Step) (slot_0 slot_1 home_0 home_1 : ℕ → List ℕ) (head_0 head_1 : List ℕ)
    (puts_0 : (i : ℕ) → i < c₁ → slots i ≡ record { memory = slot_0 i; act = write 0 (slot (not q) i) (g i) })
    (puts_1 : (i : ℕ) → i < c₁ → e.step (slot_0 i) next ≡ record { memory = slot_1 i; act = write 1 (slot (not q) i) (g i) })
    (puts_on : (i : ℕ) → i < c₁ → e.step (slot_1 i) next ≡ slots (suc i))
    (heads_0 : slots c₁ ≡ record { memory = head_0; act = write 0 0 z })
    (heads_1 : e.step head_0 next ≡ record { memory = head_1; act = write 1 0 z })
    (heads_on : e.step head_1 next ≡ homes 0)
    (sets_0 : (i : ℕ) → i < c₁ → homes i ≡ record { memory = home_0 i; act = write 0 (59 + f₁ i) (g i) })
    (sets_1 : (i : ℕ) → i < c₁ → e.step (home_0 i) next ≡ record { memory = home_1 i; act = write 1 (59 + f₁ i) (g i) })
    (sets_on : (i : ℕ) → i < c₁ → e.step (home_1 i) next ≡ homes (suc i))
    (at_stop : (xs ys a b : List Page) → One a s t → One b s t → Off n xs ys a b true → K xs ys ss)
    (then : (m : List ℕ) (xs ys : List Page) (ev : Event) (r : ℕ) → r ≡ r₀ + 4 * c₁ + 2 → e.step m ev ≡ homes c₁ → Up n xs ys t → Safe e K Q m xs ys ev ss r) where
  homes_loop : (j k : ℕ) → k + j ≡ c₁ → (m : List ℕ) (xs ys : List Page) (ev : Event) (r : ℕ) → r ≡ r₀ + 2 * c₁ + 2 + 2 * k → Homing n xs (not q) c₁ f₁ t k → Homing n ys (not q) c₁ f₁ t k →
      e.step m ev ≡ homes k → Safe e K Q m xs ys ev ss r
  homes_loop zero k w m xs ys ev r rq hx hy p =
      let kc : k ≡ c₁ = omega arith in
      then m xs ys ev r (omega arith) (p ∙ ap homes kc) (up_homing n xs ys (not q) c₁ f₁ t (subst (Homing n xs (not q) c₁ f₁ t) kc hx) (subst (Homing n ys (not q) c₁ f₁ t) kc hy))
  homes_loop (suc j) k w m xs ys ev r rq hx hy p =
      let kc : k < c₁ = omega arith in
      let gp = ch.pages k kc in
      let lx = hx.sheets.size in
      let b = homing_below n xs (not q) c₁ f₁ t k kc hx in
      let hx₁ = homing_more n xs (not q) c₁ f₁ t k kc hx (g k) gp (sym (ch.put k kc)) in
      let lx₁ = hx₁.sheets.size in
      let stop : (xs ys : List Page) (i j : ℕ) → Homing n xs (not q) c₁ f₁ t i → Homing n ys (not q) c₁ f₁ t j → K xs ys ss
      = λ xs ys i j hx hy. at_stop xs ys t t (inr refl) (inr refl) (off_homing n xs ys (not q) c₁ f₁ t i j true hx hy) in
      writes_0 (home_0 k) (59 + f₁ k) (g k) (p ∙ sets_0 k kc) (omega arith) gp (stop xs ys k k hx hy) (stop _ ys 0 k (homing_torn n xs (not q) c₁ f₁ t k kc hx (g k) gp) hy)
      (writes_1 (home_1 k) (59 + f₁ k) (g k) (sets_1 k kc) (omega arith) gp (stop _ ys (suc k) k hx₁ hy)
      (stop _ _ (suc k) 0 hx₁ (homing_torn n ys (not q) c₁ f₁ t k kc hy (g k) gp))
      (homes_loop j (suc k) (omega arith) (home_1 k) _ _ next (suc (suc r)) (omega arith) hx₁ (homing_more n ys (not q) c₁ f₁ t k kc hy (g k) gp (sym (ch.put k kc))) (sets_on k kc)))

  headers : (m : List ℕ) (xs ys : List Page) (ev : Event) (r : ℕ) → r ≡ r₀ + 2 * c₁ → Wing n xs q c f s g c₁ → Wing n ys q c f s g c₁ → e.step m ev ≡ slots c₁ → Safe e K Q m xs ys ev ss r
  headers m xs ys ev r rq hx hy p =
      let lx = hx.sheets.size in
      let lb = hx.side.body.long in
      let zl = page_long z zp in
      let bx : Body xs (not q) c₁ f₁ t = body_ready xs (not q) c₁ f₁ g s t hx.side.body.long hx.applied ch hx.done in
      let by : Body ys (not q) c₁ f₁ t = body_ready ys (not q) c₁ f₁ g s t hy.side.body.long hy.applied ch hy.done in
      let sx = side_head xs (not q) c₁ f₁ t z hz bx in
      let sy = side_head ys (not q) c₁ f₁ t z hz by in
      let tx = sheets_set n xs 0 z zp hx.sheets in
      let ty = sheets_set n ys 0 z zp hy.sheets in
      let lx₁ = tx.size in
      writes_0 head_0 0 z (p ∙ heads_0) (omega arith) zp
      (at_stop xs ys s s (inl refl) (inl refl) (off_equal n xs ys q c f s true hx.sheets hy.sheets hx.side hy.side))
      (at_stop _ ys s s (inl refl) (inl refl) (off_equal n _ ys q c f s true (sheets_torn n xs 0 z (omega arith) zp hx.sheets) hy.sheets (side_torn xs q c f s z zl hx.side) hy.side))
      (writes_1 head_1 0 z heads_1 (omega arith) zp
      (at_stop _ ys t s (inr refl) (inl refl) (off_ahead n _ ys (not q) c₁ f₁ q c f t s true tx hy.sheets sx hy.side by))
      (at_stop _ _ t s (inr refl) (inl refl) (off_ahead n _ _ (not q) c₁ f₁ q c f t s true tx (sheets_torn n ys 0 z (omega arith) zp hy.sheets) sx (side_torn ys q c f s z zl hy.side)
      (body_head ys (not q) c₁ f₁ t _ by)))
      (homes_loop c₁ 0 (omega arith) head_1 _ _ next (suc (suc r)) (omega arith)
      (record { sheets = tx; side = sx; done = λ i li. let no : ⊥ = omega arith in absurd no })
      (record { sheets = ty; side = sy; done = λ i li. let no : ⊥ = omega arith in absurd no }) heads_on))

  slots_loop : (j k : ℕ) → k + j ≡ c₁ → (m : List ℕ) (xs ys : List Page) (ev : Event) (r : ℕ) → r ≡ r₀ + 2 * k → Wing n xs q c f s g k → Wing n ys q c f s g k →
      e.step m ev ≡ slots k → Safe e K Q m xs ys ev ss r
  slots_loop zero k w m xs ys ev r rq hx hy p =
      let kc : k ≡ c₁ = omega arith in
      headers m xs ys ev r (omega arith) (subst (Wing n xs q c f s g) kc hx) (subst (Wing n ys q c f s g) kc hy) (p ∙ ap slots kc)
  slots_loop (suc j) k w m xs ys ev r rq hx hy p =
      let few = ch.few in
      let kc : k < c₁ = omega arith in
      let k₁ : k < 29 = omega arith in
      let gp = ch.pages k kc in
      let lx = hx.sheets.size in
      let b = wing_below n xs q c f s g k k₁ hx in
      let hx₁ = wing_more n xs q c f s g k k₁ hx gp in
      let lx₁ = hx₁.sheets.size in
      let stop : (xs ys : List Page) → Sheets n xs → Sheets n ys → Side xs q c f s → Side ys q c f s → K xs ys ss
      = λ xs ys hx hy sx sy. at_stop xs ys s s (inl refl) (inl refl) (off_equal n xs ys q c f s true hx hy sx sy) in
      writes_0 (slot_0 k) (slot (not q) k) (g k) (p ∙ puts_0 k kc) (omega arith) gp
      (stop xs ys hx.sheets hy.sheets hx.side hy.side)
      (stop _ ys (wing_torn_sheets n xs q c f s g k k₁ hx gp) hy.sheets (wing_torn_side n xs q c f s g k k₁ hx) hy.side)
      (writes_1 (slot_1 k) (slot (not q) k) (g k) (puts_1 k kc) (omega arith) gp
      (stop _ ys hx₁.sheets hy.sheets hx₁.side hy.side)
      (stop _ _ hx₁.sheets (wing_torn_sheets n ys q c f s g k k₁ hy gp) hx₁.side (wing_torn_side n ys q c f s g k k₁ hy))
      (slots_loop j (suc k) (omega arith) (slot_1 k) _ _ next (suc (suc r)) (omega arith) hx₁ (wing_more n ys q c f s g k k₁ hy gp) (puts_on k kc)))

  pub commits : (m : List ℕ) (xs ys : List Page) (ev : Event) (u : Up n xs ys s) → Side xs q c f s → Side ys q c f s →
      e.step m ev ≡ slots 0 → Safe e K Q m xs ys ev ss r₀
  commits m xs ys ev u sx sy p =
      slots_loop c₁ 0 (omega arith) m xs ys ev r₀ (omega arith)
      (record { sheets = u.sheets_0; side = sx; applied = u.applied_0; done = λ i li. let no : ⊥ = omega arith in absurd no })
      (record { sheets = u.sheets_1; side = sy; applied = u.applied_1; done = λ i li. let no : ⊥ = omega arith in absurd no }) p

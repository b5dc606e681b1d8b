-- A chain as it is read, and the walk along it.
use Rattle.std.proofs.Common.{◌≡◌, ℕ, zero, suc, ◌+◌, ◌-◌, ◌<◌, ◌≤◌, Bool, true, false, eqb, List, [], ◌∷◌, ◌++◌, length, sym, refl, ap, ◌∙◌, ap₂, append_assoc, arith, lit<}
use Rattle.std.proofs.lemmas.Bool.{eq-eqb, ne_eqb, eqb-true}
use Rattle.pages.specs.Device.{Page, page_at, zeros}
use Rattle.pages.specs.Fields.{at, Field, pad}
use Rattle.pages.specs.Cells.{Cell, looked_up, times, keys}
use Rattle.pages.proofs.Fields.{field_back, drop_fields}
use Rattle.pages.proofs.Cells.{tk, tk_append, looked_up_at}
use Rattle.records.specs.Layout.{fours, read_fours, Slot, Ghost, first_page, first_fields, slot_cells, head_or, chain_cells, all_cells, image, further, body, body_length}
use Rattle.records.specs.House.{event_weight}
use Rattle.records.specs.Does.{link_in, title_in, days_in, weight_of_page, more_in, spot, walk}
use Rattle.records.proofs.Holds.{Each, Sound, SoundSlot, numbers_of}
use Rattle.records.proofs.Fours.{Below, fours_back}
use Rattle.records.proofs.Chains.{slot_keys}
use Rattle.records.proofs.Views.{event_is}
use Rattle.records.proofs.Bounds.{event_sizes}

pub below_times : (b : ℕ) (xs : List ℕ) → ((k : ℕ) → 1 ≤ times xs k → k < b) → Below b xs
unfolding Below times
below_times b [] h = tt
below_times b (x ∷ xs) h = (h x (rw (eq-eqb x x refl) (omega arith)), below_times b xs (λ k l. h k (omega arith)))

-- A FIRST PAGE reads back
module _ (l : ℕ) (s : Slot) (ok : SoundSlot s) where
  abbrev fs : List Field
  fs = first_fields l s.number s.event

  abbrev rest : List ℕ
  rest = fours 22 s.more (pad 384 (body s.event))

  pub first_link : l < 4294967296 → link_in (first_page l s) ≡ l
  unfolding first_page
  first_link h = field_back fs rest 1 h

  pub first_number : s.number < 18446744073709551616 → at 5 8 (first_page l s) ≡ s.number
  unfolding first_page
  first_number h = field_back fs rest 2 h

  pub first_title : title_in (first_page l s) ≡ length s.event.title
  unfolding first_page
  first_title = field_back fs rest 3 (omega (arith, event_sizes s.event ok.fits))

  pub first_days : days_in (first_page l s) ≡ length s.event.left_out
  unfolding first_page
  first_days = field_back fs rest 4 (omega (arith, event_sizes s.event ok.fits))

  pub first_weight : weight_of_page (first_page l s) ≡ event_weight s.event
  first_weight = omega (arith, first_title, first_days)

  pub first_more : Below 4294967296 s.more → more_in (first_page l s) ≡ s.more
  unfolding first_page
  first_more h =
      let c : further (body_length (title_in (first_page l s)) (days_in (first_page l s))) ≡ length s.more =
      ap₂ (λ t d. further (body_length t d)) first_title first_days ∙ sym ok.count in
      ap₂ read_fours c (drop_fields fs rest) ∙ fours_back 22 s.more (pad 384 (body s.event)) (omega (arith, ok.count, event_sizes s.event ok.fits)) h

-- what is read of an event at its place
pub record SeenSlot (ps : List Page) (n l : ℕ) (s : Slot) : Type 0 where
  pub page_so : page_at ps s.place ≡ first_page l s
  pub number_so : at 5 8 (page_at ps s.place) ≡ s.number
  pub link_so : link_in (page_at ps s.place) ≡ l
  pub weight_so : weight_of_page (page_at ps s.place) ≡ event_weight s.event
  pub more_so : more_in (page_at ps s.place) ≡ s.more
  pub low : 65 ≤ s.place
  pub high : s.place < n - 59

unfoldable pub Seen : List Page → ℕ → List Slot → Type 0
Seen ps n [] = Unit
Seen ps n (s ∷ ss) = SeenSlot ps n (head_or ss 0) s × Seen ps n ss

module _ (n b : ℕ) (ps : List Page) (g : Ghost) (sd : Sound n b g) (sz : length ps ≡ n - 59) (sh : (k : ℕ) → k < length ps → page_at ps k ≡ image g k) where
  head_in_range : (ss : List Slot) (pre post : List Cell) → all_cells g.owners ≡ pre ++ (chain_cells ss 0 ++ post) → head_or ss 0 < 4294967296
  unfolding chain_cells keys times
  head_in_range [] pre post e = lit< tt
  head_in_range (s ∷ ss) pre post e =
      let p = tk_append pre (chain_cells (s ∷ ss) 0 ++ post) s.place in
      let q = tk_append (chain_cells (s ∷ ss) 0) post s.place in
      let h : 1 ≤ tk (chain_cells (s ∷ ss) 0) s.place = rw (eq-eqb s.place s.place refl) (omega arith) in
      let t : 1 ≤ tk (all_cells g.owners) s.place = rw e (omega arith) in
      let r = sd.range s.place t in
      omega (arith, sd.top)

  pub slot_seen : (s : Slot) (l : ℕ) (pre post : List Cell) → all_cells g.owners ≡ pre ++ (slot_cells l s ++ post) → SoundSlot s → s.number < 18446744073709551616 → l < 4294967296 → SeenSlot ps n l s
  unfolding keys times
  slot_seen s l pre post e ok hn hl =
      let k = s.place in
      let p : (j : ℕ) → tk (all_cells g.owners) j ≡ tk pre j + (times (s.place ∷ s.more) j + tk post j) =
      λ j. ap (λ c. tk c j) e ∙ tk_append pre (slot_cells l s ++ post) j ∙ ap (λ z. tk pre j + z) (tk_append (slot_cells l s) post j ∙ ap (λ z. times z j + tk post j) (slot_keys l s)) in
      let own : 1 ≤ times (s.place ∷ s.more) k = rw (eq-eqb k k refl) (omega arith) in
      let r = sd.range k (omega (arith, p k)) in
      let page_so : page_at ps k ≡ first_page l s =
      event_is n b ps g sd sz sh k r.0 r.1 ∙ ap (λ c. looked_up c k (zeros 512)) e ∙ looked_up_at pre _ k (first_page l s) (zeros 512) (omega (arith, p k, sd.once k)) in
      let bm : Below 4294967296 s.more = below_times 4294967296 s.more (λ j h. let r₁ = sd.range j (omega (arith, p j)) in omega (arith, sd.top)) in
      record {
        page_so = page_so;
        number_so = ap (at 5 8) page_so ∙ first_number l s ok hn;
        link_so = ap link_in page_so ∙ first_link l s ok hl;
        weight_so = ap weight_of_page page_so ∙ first_weight l s ok;
        more_so = ap more_in page_so ∙ first_more l s ok bm;
        low = r.0;
        high = r.1;
      }

  pub chain_seen : (ss : List Slot) (pre post : List Cell) → all_cells g.owners ≡ pre ++ (chain_cells ss 0 ++ post) → Each SoundSlot ss →
      ((k : ℕ) → 1 ≤ times (numbers_of ss) k → k < 18446744073709551616) → Seen ps n ss
  unfolding Seen chain_cells Each numbers_of times
  chain_seen [] pre post e ok hn = tt
  chain_seen (s ∷ ss) pre post e ok hn =
      let e₁ : all_cells g.owners ≡ pre ++ (slot_cells (head_or ss 0) s ++ (chain_cells ss 0 ++ post)) = e ∙ ap (λ z. pre ++ z) (append_assoc (slot_cells (head_or ss 0) s) (chain_cells ss 0) post) in
      let e₂ : all_cells g.owners ≡ (pre ++ slot_cells (head_or ss 0) s) ++ (chain_cells ss 0 ++ post) = e₁ ∙ sym (append_assoc pre (slot_cells (head_or ss 0) s) (chain_cells ss 0 ++ post)) in (
        slot_seen s (head_or ss 0) pre (chain_cells ss 0 ++ post) e₁ ok.0 (hn s.number (rw (eq-eqb s.number s.number refl) (omega arith))) (head_in_range ss _ post e₂),
        chain_seen ss (pre ++ slot_cells (head_or ss 0) s) post e₂ ok.1 (λ k l. hn k (omega arith)),
      )

-- WHERE a number is in a chain
pub data Where (ch : List Slot) (num : ℕ) : Type 0 where
  nowhere : times (numbers_of ch) num ≡ 0 → Where ch num
  there : (cs : List Slot) (s : Slot) (ss : List Slot) → ch ≡ cs ++ s ∷ ss → times (numbers_of cs) num ≡ 0 → s.number ≡ num → Where ch num

pub look : (ch : List Slot) (num : ℕ) → Where ch num
unfolding numbers_of times
look [] num = nowhere refl
look (s ∷ ss) num = go (eqb s.number num) refl (look ss num)
  where
    go : (t : Bool) → eqb s.number num ≡ t → Where ss num → Where (s ∷ ss) num
    go true q w = there [] s ss refl refl (eqb-true s.number num q)
    go false q (nowhere z) = nowhere (rw q (omega arith))
    go false q (there cs s₁ ss₁ e z m) = there (s ∷ cs) s₁ ss₁ (ap (λ c. s ∷ c) e) (rw q (omega arith)) m

abbrev pub last_or : List Slot → ℕ → ℕ
last_or [] b = b
last_or (c ∷ cs) b = last_or cs c.place

module _ (ps : List Page) (n num : ℕ) where
  pub walk_none : (f : ℕ) (ss : List Slot) (b : ℕ) → Seen ps n ss → times (numbers_of ss) num ≡ 0 → walk f ps b (head_or ss 0) num ≡ spot 0 0
  unfolding walk Seen numbers_of times
  walk_none zero ss b h z = refl
  walk_none (suc f) [] b h z = refl
  walk_none (suc f) (s ∷ ss) b h z = go (eqb s.number num) refl (walk_none f ss s.place h.1)
    where
      go : (t : Bool) → eqb s.number num ≡ t → (times (numbers_of ss) num ≡ 0 → walk f ps s.place (head_or ss 0) num ≡ spot 0 0) → walk (suc f) ps b s.place num ≡ spot 0 0
      go true q ih = let no : ⊥ = omega (arith, rw q at z) in absurd no
      go false q ih = rw (ne_eqb s.place 0 (omega (arith, h.0.low)), h.0.number_so, q, h.0.link_so) (ih (omega (arith, rw q at z)))

  pub walk_there : (f : ℕ) (cs : List Slot) (s : Slot) (ss : List Slot) (b : ℕ) → Seen ps n (cs ++ s ∷ ss) → times (numbers_of cs) num ≡ 0 → s.number ≡ num → length cs < f →
      walk f ps b (head_or (cs ++ s ∷ ss) 0) num ≡ spot (last_or cs b) s.place
  unfolding walk Seen numbers_of times
  walk_there zero cs s ss b h z e l = let no : ⊥ = omega arith in absurd no
  walk_there (suc f) [] s ss b h z e l = rw (ne_eqb s.place 0 (omega (arith, h.0.low)), h.0.number_so, eq-eqb s.number num e)
  walk_there (suc f) (c ∷ cs) s ss b h z e l = go (eqb c.number num) refl (λ y. walk_there f cs s ss c.place h.1 y e (omega arith))
    where
      go : (t : Bool) → eqb c.number num ≡ t → (times (numbers_of cs) num ≡ 0 → walk f ps c.place (head_or (cs ++ s ∷ ss) 0) num ≡ spot (last_or cs c.place) s.place) →
          walk (suc f) ps b c.place num ≡ spot (last_or cs c.place) s.place
      go true q ih = let no : ⊥ = omega (arith, rw q at z) in absurd no
      go false q ih = rw (ne_eqb c.place 0 (omega (arith, h.0.low)), h.0.number_so, q, h.0.link_so) (ih (omega (arith, rw q at z)))

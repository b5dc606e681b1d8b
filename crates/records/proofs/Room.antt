-- Free pages: there are enough, and they are found.
use Rattle.std.proofs.Common.{◌≡◌, ℕ, ◌+◌, ◌-◌, ◌*◌, ◌<◌, ◌≤◌, Bool, true, false, eqb, List, [], ◌∷◌, length, drop, sym, refl, ap, ◌∙◌, inl, inr, arith, length-append}
use Rattle.std.proofs.lemmas.Bool.{eqb-true, eqb-false}
use Rattle.std.proofs.lemmas.List.{length-take-le}
use Rattle.pages.specs.Lists.{those}
use Rattle.pages.specs.Device.{Page, page_at, zeros}
use Rattle.pages.specs.Fields.{number, at, pad}
use Rattle.pages.specs.Cells.{Cell, looked_up, times, keys}
use Rattle.pages.specs.Bytes.{from_eight}
use Rattle.pages.proofs.Fields.{field_back}
use Rattle.pages.proofs.Cells.{tk, looked_up_absent, present, absent, here, times_append, zero_or, met_small, free_many, times_those, those_are, times_take}
use Rattle.recurrence.specs.Span.{days_from}
use Rattle.records.specs.Layout.{fours, Slot, Owner, Ghost, first_page, first_fields, further_cells, head_or, chain_cells, all_cells, image, body}
use Rattle.records.specs.Does.{is_free, region, free_pages}
use Rattle.records.proofs.Holds.{Each, Sound}
use Rattle.records.proofs.Stretches.{times_days, length_days}
use Rattle.records.proofs.Chains.{each_join}
use Rattle.records.proofs.Views.{event_is}

-- a page of an event does not begin with 0
abbrev Busy : Cell → Type 0
Busy c = ¬ (at 0 1 c.page ≡ 0)

busy_further : (as₁ bs : List ℕ) → Each Busy (further_cells as₁ bs)
unfolding Each further_cells at number from_eight
busy_further [] bs = tt
busy_further (a ∷ as₁) bs = ((λ q. let no : ⊥ = omega arith in absurd no), busy_further as₁ (drop 511 bs))

busy_first : (l : ℕ) (s : Slot) → at 0 1 (first_page l s) ≡ 1
unfolding first_page
busy_first l s = field_back (first_fields l s.number s.event) (fours 22 s.more (pad 384 (body s.event))) 0 (omega arith)

busy_chain : (ss : List Slot) (l : ℕ) → Each Busy (chain_cells ss l)
unfolding Each chain_cells
busy_chain [] l = tt
busy_chain (s ∷ ss) l = ((λ q. let p = busy_first (head_or ss l) s in let no : ⊥ = omega arith in absurd no), each_join Busy (further_cells s.more (drop 384 (body s.event))) (chain_cells ss l) (busy_further s.more _) (busy_chain ss l))

busy_all : (os : List Owner) → Each Busy (all_cells os)
unfolding Each all_cells
busy_all [] = tt
busy_all (o ∷ os) = each_join Busy (chain_cells o.chain 0) (all_cells os) (busy_chain o.chain 0) (busy_all os)

busy_found : (xs : List Cell) (k : ℕ) (d : Page) → Each Busy xs → 1 ≤ tk xs k → ¬ (at 0 1 (looked_up xs k d) ≡ 0)
unfolding Each looked_up times keys
busy_found [] k d h l = let no : ⊥ = omega arith in absurd no
busy_found (x ∷ xs) k d h l = go (eqb x.key k) refl (λ z. busy_found xs k d h.1 z)
  where
    go : (t : Bool) → eqb x.key k ≡ t → (1 ≤ tk xs k → ¬ (at 0 1 (looked_up xs k d) ≡ 0)) → ¬ (at 0 1 (looked_up (x ∷ xs) k d) ≡ 0)
    go true q ih = rw q h.0
    go false q ih = rw q (ih (omega (arith, rw q at l)))

blank_free : at 0 1 (zeros 512) ≡ 0
unfolding zeros at number from_eight
blank_free = refl

-- the region, from a cursor on
module _ (n c : ℕ) (hn : 256 ≤ n) (hc : c < n - 124) where
  region_times : (k : ℕ) → (times (region n c) k ≤ 1) × (1 ≤ times (region n c) k → (65 ≤ k) × (k < n - 59))
  region_times k =
      let e = times_append (days_from (65 + c) (n - 124 - c)) (days_from 65 c) k in
      let p = times_days (65 + c) (n - 124 - c) k in
      let q = times_days 65 c k in
      elim (zero_or (times (days_from (65 + c) (n - 124 - c)) k)) [
        | inl z ↦ (omega arith, λ h. let r = q.1 (omega arith) in omega arith)
        | inr l ↦ elim (zero_or (times (days_from 65 c) k)) [ inl z ↦ (omega arith, λ h. let r = p.1 l in omega arith) | inr m ↦ let r = p.1 l in let s = q.1 m in let no : ⊥ = omega arith in absurd no ]
      ]

  region_length : length (region n c) ≡ n - 124
  region_length =
      let e = length-append (days_from (65 + c) (n - 124 - c)) (days_from 65 c) in
      let p = length_days (65 + c) (n - 124 - c) in
      let q = length_days 65 c in
      omega arith

pub record Free (n m : ℕ) (cs : List Cell) (as₁ : List ℕ) : Type 0 where
  pub many : length as₁ ≡ m
  pub once : (k : ℕ) → times as₁ k ≤ 1
  pub fresh : (k : ℕ) → 1 ≤ times as₁ k → (tk cs k ≡ 0) × (65 ≤ k) × (k < n - 59)

module _ (n b : ℕ) (ps : List Page) (g : Ghost) (sd : Sound n b g) (sz : length ps ≡ n - 59) (sh : (k : ℕ) → k < length ps → page_at ps k ≡ image g k) where
  not_free : (k : ℕ) → 65 ≤ k → k < n - 59 → is_free ps k ≡ false → 1 ≤ tk (all_cells g.owners) k
  not_free k l u q =
      elim (here (all_cells g.owners) k) [
        | present p ↦ p
        | absent z ↦ absurd (eqb-false _ 0 q (ap (at 0 1) (event_is n b ps g sd sz sh k l u ∙ looked_up_absent (all_cells g.owners) k _ z) ∙ blank_free))
      ]

  is_fresh : (k : ℕ) → 65 ≤ k → k < n - 59 → is_free ps k ≡ true → tk (all_cells g.owners) k ≡ 0
  is_fresh k l u q =
      elim (here (all_cells g.owners) k) [
        | present p ↦ absurd (busy_found (all_cells g.owners) k (zeros 512) (busy_all g.owners) p (ap (at 0 1) (sym (event_is n b ps g sd sz sh k l u)) ∙ eqb-true _ 0 q))
        | absent z ↦ z
      ]

  pub free_right : (c m : ℕ) → c < n - 124 → 256 * (length (keys (all_cells g.owners)) + m) ≤ 128 * n → Free n m (all_cells g.owners) (free_pages ps n c m)
  unfolding free_pages
  free_right c m hc room =
      let hn = sd.size in
      let ks = keys (all_cells g.owners) in
      let rt : (k : ℕ) → (times (region n c) k ≤ 1) × (1 ≤ times (region n c) k → (65 ≤ k) × (k < n - 59)) = region_times n c hn hc in
      let a = free_many (region n c) ks (is_free ps) (λ k l q. not_free k ((rt k).1 l).0 ((rt k).1 l).1 q) in
      let d = met_small (region n c) ks (λ k. (rt k).0) in
      let e = region_length n c hn hc in
      let many : m ≤ length (those (is_free ps) (region n c)) = omega arith in
      record {
        many = length-take-le m (those (is_free ps) (region n c)) many;
        once = λ k. omega (arith, times_take m (those (is_free ps) (region n c)) k, times_those (is_free ps) (region n c) k, (rt k).0);
        fresh = λ k l.
            let t : 1 ≤ times (those (is_free ps) (region n c)) k = omega (arith, times_take m (those (is_free ps) (region n c)) k) in
            let u : 1 ≤ times (region n c) k = omega (arith, times_those (is_free ps) (region n c) k) in
            let r = (rt k).1 u in
            (is_fresh k r.0 r.1 (those_are (is_free ps) (region n c) k t), r.0, r.1);
      }

-- What is read of a person.
use Rattle.std.proofs.Common.{◌≡◌, ℕ, suc, ◌-◌, ◌<◌, ◌≤◌, List, [], ◌∷◌, ◌++◌, length, take, drop, refl, ap, ◌∙◌, arith, lit<}
use Rattle.std.proofs.lemmas.Bool.{eq-eqb}
use Rattle.pages.specs.Device.{Page, page_at}
use Rattle.pages.specs.Cells.{times, keys}
use Rattle.pages.proofs.Cells.{tk, tk_append}
use Rattle.records.specs.Layout.{Slot, Owner, Ghost, head_or, chain_cells, all_cells, person_record, image}
use Rattle.records.specs.Does.{record_in, next_in, head_in}
use Rattle.records.proofs.Holds.{Sound, SoundOwner}
use Rattle.records.proofs.Chains.{owner_at, each_get, rec_at, cells_at}
use Rattle.records.proofs.Views.{record_is, rec_next, rec_head}

-- what is read of a person
pub record Read (ps : List Page) (a : ℕ) (o : Owner) : Type 0 where
  pub rest : List ℕ
  pub record_so : record_in ps a ≡ person_record o ++ rest
  pub next_so : next_in (record_in ps a) ≡ o.next
  pub head_so : head_in (record_in ps a) ≡ head_or o.chain 0

module _ (n b : ℕ) (ps : List Page) (g : Ghost) (sd : Sound n b g) (sz : length ps ≡ n - 59) (sh : (k : ℕ) → k < length ps → page_at ps k ≡ image g k) (hb : b < 18446744073709551615) where
  -- the head of a chain is a page of the region, or 0
  pub head_small : (a : ℕ) → a < length g.owners → head_or (owner_at g.owners a).chain 0 < 4294967296
  unfolding chain_cells keys times
  head_small a la = go (owner_at g.owners a).chain (cells_at g.owners a la)
    where
      go : (ch : List Slot) → all_cells g.owners ≡ all_cells (take a g.owners) ++ (chain_cells ch 0 ++ all_cells (drop (suc a) g.owners)) → head_or ch 0 < 4294967296
      go [] e = lit< tt
      go (s ∷ ss) e =
          let p = tk_append (all_cells (take a g.owners)) (chain_cells (s ∷ ss) 0 ++ all_cells (drop (suc a) g.owners)) s.place in
          let q = tk_append (chain_cells (s ∷ ss) 0) (all_cells (drop (suc a) g.owners)) s.place in
          let h : 1 ≤ tk (chain_cells (s ∷ ss) 0) s.place = rw (eq-eqb s.place s.place refl) (omega arith) in
          let t : 1 ≤ tk (all_cells g.owners) s.place = rw e (omega arith) in
          let r = sd.range s.place t in
          omega (arith, sd.top)

  pub reading : (a : ℕ) → a < length g.owners → Read ps a (owner_at g.owners a)
  reading a la =
      let o = owner_at g.owners a in
      let so = each_get (SoundOwner b) g.owners a sd.owners_sound la in
      let x = record_is n b ps g sd sz sh a (omega (arith, sd.few)) in
      let e : record_in ps a ≡ person_record o ++ x.0 = x.1 ∙ ap (λ r. r ++ x.0) (rec_at g.owners a la) in
      record {
        rest = x.0;
        record_so = e;
        next_so = ap next_in e ∙ rec_next o x.0 (omega (arith, so.small));
        head_so = ap head_in e ∙ rec_head o x.0 (head_small a la);
      }

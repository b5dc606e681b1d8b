-- One person is changed: pages that held a house hold the next.
use Rattle.std.proofs.Common.{◌≡◌, ℕ, suc, ◌+◌, ◌-◌, ◌*◌, ◌/◌, ◌<◌, ◌≤◌, Bool, true, false, eqb, List, [], ◌++◌, length, set, sym, refl, ap, ◌∙◌, inl, inr, zero-le, arith, length-append, length-set}
use Rattle.std.proofs.lemmas.Bool.{eqb-true}
use Rattle.pages.specs.Device.{Page, page_at, zeros}
use Rattle.pages.specs.Cells.{Cell, looked_up, written, times, keys}
use Rattle.pages.proofs.Cells.{tk, tk_append, Here, present, absent, here, length_written, frame}
use Rattle.records.specs.House.{Plain, weight, no, yes}
use Rattle.records.specs.Layout.{Owner, Ghost, plain, all_cells, person_record, image}
use Rattle.records.specs.Does.{closing, refuse}
use Rattle.records.specs.Promise.{TurnMay}
use Rattle.records.proofs.Holds.{Sound, SoundOwner, Holds, Fine, Result}
use Rattle.records.proofs.Chains.{each_more, each_set, rec_set, rec_other}
use Rattle.records.proofs.Views.{edit}
use Rattle.records.proofs.Images.{fine_from}

pub owner_grows : (b : ℕ) (o : Owner) → SoundOwner b o → SoundOwner (suc b) o
owner_grows b o h = record { slots = h.slots; once = h.once; below = h.below; small = omega (arith, h.small); short = h.short; bytes = h.bytes }

pub sound_grows : (n b : ℕ) (g : Ghost) → Sound n b g → Sound n (suc b) g
sound_grows n b g h =
    record { size = h.size; top = h.top; owners_sound = each_more (SoundOwner b) (SoundOwner (suc b)) (owner_grows b) g.owners h.owners_sound; few = h.few; once = h.once; range = h.range; light = h.light; cursor_in = h.cursor_in }

-- a refusal
pub refused_holds : (n b : ℕ) (ps : List Page) (w : Plain) → Holds n b ps w → Holds n (suc b) (written ps []) w
unfolding written
refused_holds n b ps w h = record { ghost = h.ghost; is = h.is; sound = sound_grows n b h.ghost h.sound; size = h.size; shown = h.shown }

pub fine_none : (ps : List Page) → Fine ps []
unfolding keys times
fine_none ps = record { pages_ok = λ k l. let no : ⊥ = omega arith in absurd no; inside = λ k l. let no : ⊥ = omega arith in absurd no; apart = λ k. zero-le; few = zero-le }

pub refused_so : (n b k : ℕ) (ps : List Page) (w : Plain) → Holds n b ps w → Result n (suc b) ps w (no k w) (refuse k)
unfolding TurnMay
refused_so n b k ps w h = record { after = w; may = inl (refl, refl, refl); holds = refused_holds n b ps w h; fine = fine_none ps }

pub no_room : (n b : ℕ) (ps : List Page) (w : Plain) (ss : List (List ℕ)) (w₁ : Plain) → Holds n b ps w → weight w < weight w₁ → 128 * n < weight w₁ → Result n (suc b) ps w (yes ss w₁) (refuse 8)
unfolding TurnMay
no_room n b ps w ss w₁ h l m = record { after = w; may = inr (refl, refl, refl, refl, l, m); holds = refused_holds n b ps w h; fine = fine_none ps }

abbrev pub with_owner : Ghost → ℕ → Owner → ℕ → Ghost
with_owner g a o c = record { zones = g.zones; owners = set g.owners a o; cursor = c }

-- a batch and its closing
module _ (n : ℕ) (ps : List Page) (sz : length ps ≡ n - 59) (hn : 256 ≤ n) (a : ℕ) (la : a < 256) (eb : List Cell)
    (far : (k : ℕ) → 1 ≤ tk eb k → (65 ≤ k) × (k < n - 59)) (once : (k : ℕ) → tk eb k ≤ 1) (few : length eb ≤ 27) (r : List ℕ) (count v x : ℕ) where
  closing_tk : (k : ℕ) → (tk (eb ++ closing ps a r count v x) k ≤ 1) × (1 ≤ tk (eb ++ closing ps a r count v x) k → k < length ps)
  unfolding keys times
  closing_tk k = go (eqb (suc (a / 4)) k) (eqb 0 k) refl refl (here eb k)
    where
      go : (t u : Bool) → eqb (suc (a / 4)) k ≡ t → eqb 0 k ≡ u → Here eb k → (tk (eb ++ closing ps a r count v x) k ≤ 1) × (1 ≤ tk (eb ++ closing ps a r count v x) k → k < length ps)
      go true true p q h = let y = eqb-true (suc (a / 4)) k p in let z = eqb-true 0 k q in let no : ⊥ = omega arith in absurd no
      go true false p q (present l) = let y = eqb-true (suc (a / 4)) k p in let f = far k l in let no : ⊥ = omega arith in absurd no
      go false true p q (present l) = let y = eqb-true 0 k q in let f = far k l in let no : ⊥ = omega arith in absurd no
      go true false p q (absent l) = let y = eqb-true (suc (a / 4)) k p in rw (tk_append eb (closing ps a r count v x) k, p, q) (omega arith, λ m. omega arith)
      go false true p q (absent l) = let y = eqb-true 0 k q in rw (tk_append eb (closing ps a r count v x) k, p, q) (omega arith, λ m. omega arith)
      go false false p q (present l) = let f = far k l in let o = once k in rw (tk_append eb (closing ps a r count v x) k, p, q) (omega arith, λ m. omega arith)
      go false false p q (absent l) = rw (tk_append eb (closing ps a r count v x) k, p, q) (omega arith, λ m. let no : ⊥ = omega arith in absurd no)

  pub closing_fine : (b : ℕ) (w : Plain) → Holds n b (written ps (eb ++ closing ps a r count v x)) w → Fine ps (eb ++ closing ps a r count v x)
  closing_fine b w h = fine_from n b ps _ w h (λ k l. (closing_tk k).1 l) (λ k. (closing_tk k).0) (omega (arith, length-append eb (closing ps a r count v x)))

pub record Done (n b : ℕ) (ps : List Page) (batch : List Cell) (w : Plain) : Type 0 where
  pub holds : Holds n b (written ps batch) w
  pub fine : Fine ps batch

-- the middle of the cells is changed
pub record Changes (n : ℕ) (pre old new post eb : List Cell) (k : ℕ) : Type 0 where
  pub once : tk new k ≤ 1
  pub apart : 1 ≤ tk new k → tk pre k + tk post k ≡ 0
  pub range : 1 ≤ tk new k → (65 ≤ k) × (k < n - 59)
  pub far : 1 ≤ tk eb k → (tk pre k + tk post k ≡ 0) × ((65 ≤ k) × (k < n - 59))
  pub eb_once : tk eb k ≤ 1
  pub local : looked_up eb k (looked_up old k (zeros 512)) ≡ looked_up new k (zeros 512)

module _ (n b : ℕ) (ps : List Page) (g : Ghost) (sd : Sound n b g) (sz : length ps ≡ n - 59) (sh : (k : ℕ) → k < length ps → page_at ps k ≡ image g k)
    (a : ℕ) (la : a < length g.owners) (o₁ : Owner) (c₁ : ℕ) (hc : c₁ < n - 124) (so : SoundOwner (suc b) o₁)
    (light : weight (plain (with_owner g a o₁ c₁)) ≤ 128 * n)
    (pre old new post eb : List Cell) (was : all_cells g.owners ≡ pre ++ (old ++ post)) (now_is : all_cells (set g.owners a o₁) ≡ pre ++ (new ++ post))
    (few : length eb ≤ 27) (ch : (k : ℕ) → Changes n pre old new post eb k) where
  tk_was : (k : ℕ) → tk (all_cells g.owners) k ≡ tk pre k + tk old k + tk post k
  tk_was k = ap (λ c. tk c k) was ∙ tk_append pre (old ++ post) k ∙ omega (arith, tk_append old post k)

  tk_now : (k : ℕ) → tk (all_cells (set g.owners a o₁)) k ≡ tk pre k + tk new k + tk post k
  tk_now k = ap (λ c. tk c k) now_is ∙ tk_append pre (new ++ post) k ∙ omega (arith, tk_append new post k)

  sound_edited : Sound n (suc b) (with_owner g a o₁ c₁)
  sound_edited = record {
    size = sd.size;
    top = sd.top;
    owners_sound = each_set (SoundOwner (suc b)) g.owners a o₁ (each_more (SoundOwner b) (SoundOwner (suc b)) (owner_grows b) g.owners sd.owners_sound) so;
    few = rw (length-set g.owners a o₁) sd.few;
    once = λ k. elim (here new k) [
      | present p ↦ omega (arith, tk_now k, (ch k).once, (ch k).apart p)
      | absent z ↦ omega (arith, tk_now k, tk_was k, sd.once k)
    ];
    range = λ k l. elim (here new k) [
      | present p ↦ (ch k).range p
      | absent z ↦ sd.range k (omega (arith, tk_now k, tk_was k))
    ];
    light = light;
    cursor_in = hc;
  }

  edited_holds : (r : List ℕ) (count w : ℕ) → r ≡ person_record o₁ → count ≡ length g.owners → w ≡ weight (plain (with_owner g a o₁ c₁)) →
      Holds n (suc b) (written ps (eb ++ closing ps a r count w c₁)) (plain (with_owner g a o₁ c₁))
  edited_holds r count w hr hcount hw =
      let g₁ = with_owner g a o₁ c₁ in
      let la₁ : a < 256 = omega (arith, sd.few) in
      let e : eb ++ closing ps a r count w c₁ ≡ eb ++ closing ps a (person_record o₁) (length g₁.owners) (weight (plain g₁)) c₁ =
      λ i. eb ++ closing ps a (hr i) ((hcount ∙ sym (length-set g.owners a o₁)) i) (hw i) c₁ in
      rw e (record {
        ghost = g₁;
        is = refl;
        sound = sound_edited;
        size = length_written ps _ ∙ sz;
        shown = edit n b ps g sd sz sh g₁ a eb (person_record o₁) refl la₁ (rec_set g.owners a o₁ la) (rec_other g.owners a o₁) (λ k l. ((ch k).far l).1.0)
            (λ k. ap (λ c. looked_up eb k (looked_up c k (zeros 512))) was
            ∙ frame pre old new post eb k (zeros 512) (omega (arith, tk_was k, sd.once k)) (λ l. ((ch k).far l).0) (ch k).apart (ch k).local
            ∙ ap (λ c. looked_up c k (zeros 512)) (sym now_is));
      })

  pub edited : (r : List ℕ) (count w : ℕ) → r ≡ person_record o₁ → count ≡ length g.owners → w ≡ weight (plain (with_owner g a o₁ c₁)) →
      Done n (suc b) ps (eb ++ closing ps a r count w c₁) (plain (with_owner g a o₁ c₁))
  edited r count w hr hcount hw =
      let h = edited_holds r count w hr hcount hw in
      record { holds = h; fine = closing_fine n ps sz sd.size a (omega (arith, sd.few)) eb (λ k l. ((ch k).far l).1) (λ k. (ch k).eb_once) few r count w c₁ (suc b) (plain (with_owner g a o₁ c₁)) h }

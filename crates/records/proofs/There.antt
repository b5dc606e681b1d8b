-- There is such an event: what is known of it, of its owner and of the pages. Every command on one event begins with this.
use Rattle.std.proofs.Common.{◌≡◌, ℕ, suc, ◌+◌, ◌-◌, ◌<◌, ◌≤◌, false, eqb, List, [], ◌∷◌, ◌++◌, length, take, drop, sym, ap, ◌∙◌, append_assoc, arith}
use Rattle.std.proofs.lemmas.Bool.{eq-eqb, ne_eqb}
use Rattle.pages.specs.Lists.{those}
use Rattle.pages.specs.Device.{Page, page_at}
use Rattle.pages.specs.Cells.{Cell, times}
use Rattle.records.specs.House.{event_weight}
use Rattle.records.specs.Layout.{Slot, Owner, Ghost, entry, entries_of, slot_cells, head_or, chain_cells, all_cells, image}
use Rattle.records.specs.Does.{spot, spot_in, load, more_in}
use Rattle.records.proofs.Holds.{Each, Sound, SoundOwner, SoundSlot, numbers_of}
use Rattle.records.proofs.Chains.{owner_at, each_get, each_join, each_front, each_back, cells_at, chain_append, entry_weights}
use Rattle.records.proofs.Find.{Seen, SeenSlot, last_or}
use Rattle.records.proofs.Entries.{numbers_append, entry_there, weights_split, chain_all_seen, spot_there}
use Rattle.records.proofs.Load.{loads}

pub regroup : (a b c d e : List Cell) → a ++ ((b ++ (c ++ d)) ++ e) ≡ (a ++ b) ++ (c ++ (d ++ e))
regroup a b c d e = simp append_assoc

pub seen_there : (ps : List Page) (n : ℕ) (cs : List Slot) (s : Slot) (ss : List Slot) → Seen ps n (cs ++ s ∷ ss) → SeenSlot ps n (head_or ss 0) s
unfolding Seen
seen_there ps n [] s ss h = h.0
seen_there ps n (c ∷ cs) s ss h = seen_there ps n cs s ss h.1

abbrev pub with_chain : Owner → List Slot → Owner
with_chain o ch = record { name = o.name; next = o.next; chain = ch }

-- the event s, behind cs and before ss in the chain of person a
pub record There (n b : ℕ) (ps : List Page) (g : Ghost) (a num : ℕ) (cs : List Slot) (s : Slot) (ss : List Slot) : Type 0 where
  pub so : SoundOwner b (owner_at g.owners a)
  pub rest_free : times (numbers_of ss) num ≡ 0
  pub slots : Each SoundSlot (cs ++ s ∷ ss)
  pub slot_so : SoundSlot s
  pub without : SoundOwner b (with_chain (owner_at g.owners a) (cs ++ ss))
  pub weights : entry_weights (entries_of (owner_at g.owners a).chain) ≡ entry_weights (entries_of (cs ++ ss)) + event_weight s.event
  pub entry_is : those (λ x. eqb x.number num) (entries_of (owner_at g.owners a).chain) ≡ entry s ∷ []
  pub was : all_cells g.owners ≡ (all_cells (take a g.owners) ++ chain_cells cs s.place) ++ (slot_cells (head_or ss 0) s ++ (chain_cells ss 0 ++ all_cells (drop (suc a) g.owners)))
  pub seen : SeenSlot ps n (head_or ss 0) s
  pub loaded : load ps s.place ≡ s.event
  pub spot_is : spot_in ps a num ≡ spot (last_or cs 0) s.place
  pub some : eqb s.place 0 ≡ false

module _ (n b : ℕ) (ps : List Page) (g : Ghost) (sd : Sound n b g) (sz : length ps ≡ n - 59) (sh : (k : ℕ) → k < length ps → page_at ps k ≡ image g k) (hb : b < 18446744073709551615)
    (a num : ℕ) (la : a < length g.owners)
    (cs : List Slot) (s : Slot) (ss : List Slot) (ch : (owner_at g.owners a).chain ≡ cs ++ s ∷ ss) (zc : times (numbers_of cs) num ≡ 0) (is : s.number ≡ num) where
  so : SoundOwner b (owner_at g.owners a)
  so = each_get (SoundOwner b) g.owners a sd.owners_sound la

  -- other events have other numbers
  rest_free : times (numbers_of ss) num ≡ 0
  unfolding numbers_of times
  rest_free =
      let h : times (numbers_of (cs ++ s ∷ ss)) num ≤ 1 = rw ch at (so.once num) in
      let k = numbers_append cs (s ∷ ss) num in
      let i : times (numbers_of (s ∷ ss)) num ≡ 1 + times (numbers_of ss) num = rw (eq-eqb s.number num is) in
      omega arith

  slots : Each SoundSlot (cs ++ s ∷ ss)
  slots = rw ch at so.slots

  slot_so : SoundSlot s
  unfolding Each
  slot_so = (each_back SoundSlot cs (s ∷ ss) slots).0

  without : SoundOwner b (with_chain (owner_at g.owners a) (cs ++ ss))
  unfolding numbers_of times Each
  without = record {
    slots = each_join SoundSlot cs ss (each_front SoundSlot cs (s ∷ ss) slots) (each_back SoundSlot cs (s ∷ ss) slots).1;
    once = λ k. let h : times (numbers_of (cs ++ s ∷ ss)) k ≤ 1 = rw ch at (so.once k) in omega (arith, numbers_append cs (s ∷ ss) k, numbers_append cs ss k);
    below = λ k l. so.below k (rw ch (omega (arith, numbers_append cs (s ∷ ss) k, numbers_append cs ss k)));
    small = so.small;
    short = so.short;
    bytes = so.bytes;
  }

  was : all_cells g.owners ≡ (all_cells (take a g.owners) ++ chain_cells cs s.place) ++ (slot_cells (head_or ss 0) s ++ (chain_cells ss 0 ++ all_cells (drop (suc a) g.owners)))
  unfolding chain_cells
  was =
      cells_at g.owners a la ∙ ap (λ c. all_cells (take a g.owners) ++ (c ++ all_cells (drop (suc a) g.owners))) (ap (λ c. chain_cells c 0) ch ∙ chain_append cs (s ∷ ss) 0)
      ∙ regroup (all_cells (take a g.owners)) (chain_cells cs s.place) (slot_cells (head_or ss 0) s) (chain_cells ss 0) (all_cells (drop (suc a) g.owners))

  seen : SeenSlot ps n (head_or ss 0) s
  seen = seen_there ps n cs s ss (rw ch at (chain_all_seen n b ps g sd sz sh hb a num la))

  pub it_is : There n b ps g a num cs s ss
  it_is = record {
    so = so;
    rest_free = rest_free;
    slots = slots;
    slot_so = slot_so;
    without = without;
    weights = ap (λ c. entry_weights (entries_of c)) ch ∙ weights_split cs s ss;
    entry_is = ap (λ c. those (λ x. eqb x.number num) (entries_of c)) ch ∙ entry_there cs s ss num zc rest_free is;
    was = was;
    seen = seen;
    loaded = loads n b ps g sd sz sh s (head_or ss 0) _ _ was slot_so (ap more_in (sym seen.page_so) ∙ seen.more_so);
    spot_is = spot_there n b ps g sd sz sh hb a num la cs s ss ch zc is;
    some = ne_eqb s.place 0 (omega (arith, seen.low));
  }

-- All commands, and any of them one after another; and a walk over all of a person's events.
use Rattle.std.proofs.Common.{◌≡◌, ℕ, zero, suc, ◌+◌, ◌-◌, ◌<◌, ◌≤◌, true, ◌&&◌, ltb, List, [], ◌∷◌, ◌++◌, length, sym, refl, ap, ◌∙◌, append_assoc, arith}
use mathlib.Core.Bool.{false≢true}
use Rattle.std.proofs.lemmas.Bool.{ne_eqb, and_parts}
use Rattle.pages.specs.Lists.{every, each}
use Rattle.pages.specs.Device.{Page, page_at}
use Rattle.pages.specs.Cells.{Cell}
use Rattle.dates.specs.Limits.{a_day}
use Rattle.recurrence.specs.Event.{an_event}
use Rattle.records.specs.House.{Plain, turn}
use Rattle.records.specs.Layout.{Slot, Ghost, entry, slot_cells, head_or, chain_cells, all_cells, image}
use Rattle.records.specs.Command.{Command, fits, join, zone, put, change, drop_event, skip, list, busy_times, free, next_one, shown}
use Rattle.records.specs.Does.{does, known_here, RightRun, PagesRight, entries_in, more_in}
use Rattle.records.proofs.Holds.{Each, Sound, SoundSlot, Holds, Result}
use Rattle.records.proofs.Images.{new_holds}
use Rattle.records.proofs.Find.{Seen}
use Rattle.records.proofs.Load.{loads}
use Rattle.records.proofs.Join.{join_right}
use Rattle.records.proofs.Put.{put_right}
use Rattle.records.proofs.Change.{change_right}
use Rattle.records.proofs.Drop.{drop_right}
use Rattle.records.proofs.Skip.{skip_right}
use Rattle.records.proofs.Shown.{shown_right}

-- ANY COMMAND is the plain house's
pub all_right : (n b : ℕ) (ps : List Page) (w : Plain) (c : Command) → Holds n b ps w → b < 18446744073709551615 → fits c ≡ true → known_here c ≡ true → Result n (suc b) ps w (turn w c) (does n ps c)
unfolding does fits known_here
all_right n b ps w (join nm) h hb f k = join_right n b ps w nm h hb f
all_right n b ps w (zone i z) h hb f k = absurd (false≢true k)
all_right n b ps w (put a e) h hb f k = put_right n b ps w a e h hb (and_parts (ltb a 256) (an_event e) f).1
all_right n b ps w (change a num e) h hb f k = change_right n b ps w a num e h hb (and_parts (ltb a 256 && ltb num 18446744073709551616) (an_event e) f).1
all_right n b ps w (drop_event a num) h hb f k = drop_right n b ps w a num h hb
all_right n b ps w (skip a num d) h hb f k = skip_right n b ps w a num d h hb (and_parts (ltb a 256 && ltb num 18446744073709551616) (a_day d) f).1
all_right n b ps w (list a f₁ t) h hb f k = absurd (false≢true k)
all_right n b ps w (busy_times as₁ f₁ t) h hb f k = absurd (false≢true k)
all_right n b ps w (free as₁ i f₁ t) h hb f k = absurd (false≢true k)
all_right n b ps w (next_one a t) h hb f k = absurd (false≢true k)
all_right n b ps w (shown a num) h hb f k = shown_right n b ps w a num h hb

run_right : (n b : ℕ) (ps : List Page) (w : Plain) (cs : List Command) → Holds n b ps w → b + length cs < 18446744073709551615 → every (λ c. fits c && known_here c) cs ≡ true → RightRun n ps w cs
unfolding RightRun
run_right n b ps w [] h l f = refl
run_right n b ps w (c ∷ cs) h l f =
    let p = (and_parts (fits c && known_here c) (every (λ c. fits c && known_here c) cs) f).0 in
    let r = all_right n b ps w c h (omega arith) (and_parts (fits c) (known_here c) p).0 (and_parts (fits c) (known_here c) p).1 in
    (r.after, r.may, run_right n (suc b) _ r.after cs r.holds (omega arith) (and_parts (fits c && known_here c) (every (λ c. fits c && known_here c) cs) f).1)

pub pages_right : PagesRight
unfolding PagesRight
pages_right n cs hn ht l f = run_right n 0 _ _ cs (new_holds n 0 hn ht) (omega arith) f

-- THE WALK over a chain
module _ (n b : ℕ) (ps : List Page) (g : Ghost) (sd : Sound n b g) (sz : length ps ≡ n - 59) (sh : (k : ℕ) → k < length ps → page_at ps k ≡ image g k) where
  pub entries_right : (f : ℕ) (ss : List Slot) (pre post : List Cell) → all_cells g.owners ≡ pre ++ (chain_cells ss 0 ++ post) → Each SoundSlot ss → Seen ps n ss → length ss ≤ f →
      entries_in f ps (head_or ss 0) ≡ each entry ss
  unfolding entries_in Each Seen chain_cells
  entries_right zero [] pre post e ok h l = refl
  entries_right (suc f) [] pre post e ok h l = refl
  entries_right zero (s ∷ ss) pre post e ok h l = let no : ⊥ = omega arith in absurd no
  entries_right (suc f) (s ∷ ss) pre post e ok h l =
      let e₁ : all_cells g.owners ≡ pre ++ (slot_cells (head_or ss 0) s ++ (chain_cells ss 0 ++ post)) = e ∙ ap (λ z. pre ++ z) (append_assoc (slot_cells (head_or ss 0) s) (chain_cells ss 0) post) in
      let e₂ : all_cells g.owners ≡ (pre ++ slot_cells (head_or ss 0) s) ++ (chain_cells ss 0 ++ post) = e₁ ∙ sym (append_assoc pre (slot_cells (head_or ss 0) s) (chain_cells ss 0 ++ post)) in
      let ld = loads n b ps g sd sz sh s (head_or ss 0) pre (chain_cells ss 0 ++ post) e₁ ok.0 (ap more_in (sym h.0.page_so) ∙ h.0.more_so) in
      rw (ne_eqb s.place 0 (omega (arith, h.0.low)), h.0.number_so, ld, h.0.link_so)
      (ap (λ z. entry s ∷ z) (entries_right f ss (pre ++ slot_cells (head_or ss 0) s) post e₂ ok.1 h.1 (omega arith)))

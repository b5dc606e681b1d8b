-- An event is shown.
use Rattle.std.proofs.Common.{◌≡◌, ℕ, suc, ◌-◌, ◌<◌, Bool, true, false, ltb, List, [], ◌∷◌, length, refl, ap, subst, inl}
use Rattle.std.proofs.lemmas.Bool.{ltb-true}
use Rattle.pages.specs.Device.{Page, page_at}
use Rattle.records.specs.House.{Plain, turn}
use Rattle.records.specs.Layout.{Ghost, plain, image}
use Rattle.records.specs.Promise.{TurnMay}
use Rattle.records.specs.Command.{shown, event_spelled}
use Rattle.records.specs.Does.{do_shown}
use Rattle.records.proofs.Holds.{Sound, Holds, Result}
use Rattle.records.proofs.Chains.{owner_at, people_at, people_many}
use Rattle.records.proofs.Views.{count_is}
use Rattle.records.proofs.Find.{Where, nowhere, there, look}
use Rattle.records.proofs.Entries.{entry_none, spot_none}
use Rattle.records.proofs.Edits.{refused_holds, refused_so, fine_none}
use Rattle.records.proofs.There.{it_is}

module _ (n b : ℕ) (ps : List Page) (g : Ghost) (sd : Sound n b g) (sz : length ps ≡ n - 59) (sh : (k : ℕ) → k < length ps → page_at ps k ≡ image g k) (hb : b < 18446744073709551615)
    (a num : ℕ) where
  abbrev held : Holds n b ps (plain g)
  held = record { ghost = g; is = refl; sound = sd; size = sz; shown = sh }

  shown_any : (q : ltb a (length g.owners) ≡ true) → Where (owner_at g.owners a).chain num → Result n (suc b) ps (plain g) (turn (plain g) (shown a num)) (do_shown ps a num)
  unfolding turn do_shown TurnMay
  shown_any q (nowhere z) =
      let la = ltb-true a (length g.owners) q in
      rw (people_many g.owners, q, people_at g.owners a, entry_none (owner_at g.owners a).chain num z, count_is n b ps g sd sz sh, q, spot_none n b ps g sd sz sh hb a num la z) (refused_so n b 3 ps (plain g) held)
  shown_any q (there cs s ss ch zc is) =
      let it = it_is n b ps g sd sz sh hb a num (ltb-true a (length g.owners) q) cs s ss ch zc is in
      rw (people_many g.owners, q, people_at g.owners a, it.entry_is, count_is n b ps g sd sz sh, q, it.spot_is, it.some)
      (record { after = plain g; may = inl (refl, ap (λ e. event_spelled e ∷ []) it.loaded, refl); holds = refused_holds n b ps (plain g) held; fine = fine_none ps })

  shown_all : (t : Bool) → ltb a (length g.owners) ≡ t → Result n (suc b) ps (plain g) (turn (plain g) (shown a num)) (do_shown ps a num)
  unfolding turn do_shown
  shown_all true q = shown_any q (look (owner_at g.owners a).chain num)
  shown_all false q = rw (people_many g.owners, q, count_is n b ps g sd sz sh, q) (refused_so n b 3 ps (plain g) held)

-- SHOWN is the plain house's
pub shown_right : (n b : ℕ) (ps : List Page) (w : Plain) (a num : ℕ) → Holds n b ps w → b < 18446744073709551615 → Result n (suc b) ps w (turn w (shown a num)) (do_shown ps a num)
shown_right n b ps w a num h hb =
    subst (λ v. Result n (suc b) ps v (turn v (shown a num)) (do_shown ps a num)) h.is
    (shown_all n b ps h.ghost h.sound h.size h.shown hb a num (ltb a (length h.ghost.owners)) refl)

-- THE MAIN PROMISE, for the commands that are known.
use Rattle.std.proofs.Common.{◌≡◌, ℕ, suc, ◌≤◌, true, false, List, [], length, Some, None, Option, refl, ◌∙◌, arith}
use Rattle.pages.specs.Device.{Page, blank}
use Rattle.pages.specs.Run.{said, refused}
use Rattle.pages.specs.Store.{Up, Off, new_pages}
use Rattle.pages.proofs.Items.{refined}
use Rattle.pages.proofs.Owing.{PlainOwed, all_right_with}
use Rattle.pages.proofs.Recovers.{does}
use Rattle.pages.proofs.Safe.{Safe}
use Rattle.pages.proofs.Store.{off_new}
use Rattle.pages.proofs.Stores.{Idling, store_owed}
use Rattle.records.specs.Command.{joins}
use Rattle.records.specs.Promise.{May}
use Rattle.records.specs.Reader.{found, meant}
use Rattle.records.specs.declared.command.Command.{Command}
use Rattle.records.specs.declared.command.Command.TheVariants.{Join, SetZone, Put, Change, DropEvent, Skip, Listing, Busy, Free, Next, Shown}
use Rattle.engine_next.specs.OnPages.{outcome, PageMay}
use Rattle.engine_next.specs.Own.{own, said_as}
use Rattle.engine.specs.Promise.{Whole}
use Rattle.engine_next.proofs.Areas.{Ready}
use Rattle.engine_next.proofs.Beside.{Beside, Inv, inv_ages, inv_keeps, new_beside, new_house, refines}
use Rattle.engine_next.proofs.Joins.{join_runs, joins_here}
use Rattle.engine_next.proofs.Running.{Stops, Ends, refuse_now}
use Rattle.engine_next.proofs.Steadiness.{steady}
use Rattle.engine_next.proofs.Turns.{own_said}
use Rattle.engine_next.proofs.Wakes.{idle, own_ends, own_ready, own_recovery}

module _ (n : ℕ) (low : 256 ≤ n) (high : n ≤ 1048576) where
  module _ (i : ℕ) (s : List Page) (inv : Inv n (suc i) s) (t m : List ℕ) (xs ys : List Page) (y : Ready n m) (u : Up n xs ys s) where
    abbrev Runs : Type 0
    Runs = Safe own (Stops joins n low high s t) (Ends joins n low high s t) m xs ys (said t) [] 0

    -- what is no command, and what is not known
    none_runs : found t ≡ None → Runs
    unfolding outcome
    none_runs e = refuse_now joins n low high s t 1 (omega arith) (omega arith) (rw e) m m xs ys (said t) 0 (own_said n m t low high y ∙ rw e) y u

    other_runs : (c : Command) → found t ≡ Some c → joins (meant t c) ≡ false → said_as (Some c) t n m ≡ does m (refused 2) → Runs
    unfolding outcome
    other_runs c e k q =
        refuse_now joins n low high s t 2 (omega arith) (omega arith) (rw (e, k)) m m xs ys (said t) 0 (own_said n m t low high y ∙ rw e q) y u

    found_runs : (o : Option Command) → found t ≡ o → Runs
    unfolding joins
    found_runs None e = none_runs e
    found_runs (Some (Join p)) e = join_runs n low high i s inv t p e m xs ys y u
    found_runs (Some (SetZone k z)) e = other_runs _ e refl refl
    found_runs (Some (Put a d)) e = other_runs _ e refl refl
    found_runs (Some (Change a k d)) e = other_runs _ e refl refl
    found_runs (Some (DropEvent a k)) e = other_runs _ e refl refl
    found_runs (Some (Skip a k d)) e = other_runs _ e refl refl
    found_runs (Some (Listing a f)) e = other_runs _ e refl refl
    found_runs (Some (Busy ps f)) e = other_runs _ e refl refl
    found_runs (Some (Free ps k f)) e = other_runs _ e refl refl
    found_runs (Some (Next a v)) e = other_runs _ e refl refl
    found_runs (Some (Shown a k)) e = other_runs _ e refl refl

  owed : PlainOwed (PageMay joins n) own (Idling n (Ready n)) (Off n) (Inv n)
  owed =
      store_owed own n (own_recovery n low high) (Ready n) (idle n) (own_ready n low high) (own_ends n low high) (PageMay joins n) (Inv n)
      (λ i m xs ys s inv h t. found_runs i s inv t m xs ys h.ready h.up (found t) refl)
      (inv_ages n) (inv_keeps joins joins_here n)

pub whole_joins : Whole joins own
unfolding Whole
whole_joins = (
  steady,
  λ n is low high few p.
      refined (PageMay joins n) (May joins n) (Beside n) (refines joins joins_here n) own is _ (new_pages n) new_house (new_beside n (length is) low high few)
      (all_right_with (PageMay joins n) own (Idling n (Ready n)) (Off n) (Inv n) (owed n low high) (blank n) (blank n) (new_pages n) is (off_new n true (omega arith)) (new_house, new_beside n (length is) low high few) p),
)

-- The house of logical pages beside the plain house: what the first may do, the second may.
use Rattle.std.proofs.Common.{◌≡◌, ℕ, suc, ◌+◌, ◌-◌, ◌<◌, ◌≤◌, Bool, true, false, List, [], Some, None, Option, sym, refl, subst, inl, inr, arith}
use Rattle.pages.specs.Device.{Page, blank}
use Rattle.pages.specs.Lists.{pick, so_many}
use Rattle.pages.specs.Cells.{written}
use Rattle.pages.specs.Frame.{Refines}
use Rattle.dates.specs.Zone.{no_zone}
use Rattle.records.specs.Command.{Command as Meant}
use Rattle.records.specs.House.{Plain}
use Rattle.records.specs.Does.{Outcome, does, known_here, refuse}
use Rattle.records.specs.Promise.{May, Said}
use Rattle.records.specs.Reader.{found, meant}
use Rattle.records.specs.Reads.{Reads}
use Rattle.records.specs.declared.command.Command.{Command}
use Rattle.records.proofs.Holds.{Holds, Fine}
use Rattle.records.proofs.Edits.{refused_holds, fine_none}
use Rattle.records.proofs.Images.{new_holds}
use Rattle.records.proofs.Right.{reads}
use Rattle.records.proofs.Runs.{all_right}
use Rattle.engine_next.specs.OnPages.{outcome, outcome_of, PageMay}

-- pages that hold a plain house; event numbers grow by at most one with each item that is left
pub record Beside (n i : ℕ) (ps : List Page) (w : Plain) : Type 0 where
  pub bound : ℕ
  pub room : bound + i ≤ 4294967296
  pub holds : Holds n bound ps w

abbrev pub new_house : Plain
new_house = record { zones = so_many 16 no_zone; people = [] }

pub new_beside : (n i : ℕ) → 256 ≤ n → n ≤ 1048576 → i ≤ 4294967296 → Beside n i (blank (n - 59)) new_house
new_beside n i l h k = record { bound = 0; room = omega arith; holds = new_holds n 0 l h }

-- what one command does, beside both
pub record BesideStep (known : Meant → Bool) (n i : ℕ) (ps : List Page) (w : Plain) (t : List ℕ) (o : Outcome) : Type 0 where
  pub after : Plain
  pub may : (r : ℕ) → May known n w t o.shows r o.reply after
  pub beside : Beside n i (written ps o.batch) after
  pub fine : Fine ps o.batch

module _ (known : Meant → Bool) (here : (c : Meant) → known c ≡ true → known_here c ≡ true) (n i : ℕ) (ps : List Page) (w : Plain) (b : Beside n (suc i) ps w) (t : List ℕ) where
  refused_step : (k : ℕ) → ((r : ℕ) → May known n w t [] r k w) → BesideStep known n i ps w t (refuse k)
  refused_step k m =
      record {
        after = w;
        may = m;
        beside = record { bound = suc b.bound; room = omega (arith, b.room); holds = refused_holds n b.bound ps w b.holds };
        fine = fine_none ps;
      }

  known_step : (c : Command) → found t ≡ Some c → (k : Bool) → known (meant t c) ≡ k → BesideStep known n i ps w t (pick k (does n ps (meant t c)) (refuse 2))
  unfolding May Reads Said
  known_step c e true q =
      let s = reads t (Some c) e in
      let l : b.bound < 18446744073709551615 = omega (arith, b.room) in
      let x = all_right n b.bound ps w (meant t c) b.holds l s.1 (here (meant t c) q) in
      record {
        after = x.after;
        may = λ r. inl (meant t c, s, q, x.may);
        beside = record { bound = suc b.bound; room = omega (arith, b.room); holds = x.holds };
        fine = x.fine;
      }
  known_step c e false q = refused_step 2 (λ r. inr (inl (meant t c, reads t (Some c) e, q, refl, refl, refl)))

  found_step : (o : Option Command) → found t ≡ o → BesideStep known n i ps w t (outcome_of known n ps t o)
  unfolding May Reads
  found_step None e = refused_step 1 (λ r. inr (inr (reads t None e, refl, refl, refl)))
  found_step (Some c) e = known_step c e (known (meant t c)) refl

  pub beside_step : BesideStep known n i ps w t (outcome known n ps t)
  unfolding outcome
  beside_step = found_step (found t) refl

ages : (n i : ℕ) (ps : List Page) (w : Plain) → Beside n (suc i) ps w → Beside n i ps w
ages n i ps w h = record { bound = h.bound; room = omega (arith, h.room); holds = h.holds }

pub refines : (known : Meant → Bool) → ((c : Meant) → known c ≡ true → known_here c ≡ true) → (n : ℕ) → Refines (PageMay known n) (May known n) (Beside n)
refines known here n = (
  ages n,
  λ i ps w t ss r reply ps₁ b m.
      let x = beside_step known here n i ps w b t in (
        x.after,
        subst (λ z. May known n w t z r reply x.after) (sym m.shows) (subst (λ z. May known n w t (outcome known n ps t).shows r z x.after) (sym m.ends) (x.may r)),
        subst (λ z. Beside n i z x.after) (sym m.after) x.beside,
      ),
)

-- the same of the pages alone
abbrev pub Inv : ℕ → ℕ → List Page → Type 0
Inv n i ps = (w : Plain) × Beside n i ps w

pub inv_ages : (n i : ℕ) (ps : List Page) → Inv n (suc i) ps → Inv n i ps
inv_ages n i ps h = (h.0, ages n i ps h.0 h.1)

pub inv_keeps : (known : Meant → Bool) → ((c : Meant) → known c ≡ true → known_here c ≡ true) → (n i : ℕ) (ps : List Page) (t : List ℕ) (ss : List (List ℕ)) (r reply : ℕ) (ps₁ : List Page) →
    Inv n (suc i) ps → PageMay known n ps t ss r reply ps₁ → Inv n i ps₁
inv_keeps known here n i ps t ss r reply ps₁ h m = let x = (refines known here n).1 i ps h.0 t ss r reply ps₁ h.1 m in (x.0, x.2)

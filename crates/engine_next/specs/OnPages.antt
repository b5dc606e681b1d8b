-- What a command does to the logical pages of the store, whatever stands behind them: how it ends, what it shows, and which pages it changes.
-- Assumes nothing: these are definitions.
use Rattle.std.specs.Prelude.{◌≡◌, ℕ, Bool, List, Some, None, Option}
use Rattle.pages.specs.Lists.{pick}
use Rattle.pages.specs.Device.{Page}
use Rattle.pages.specs.Cells.{written}
use Rattle.records.specs.Command.{Command as Meant}
use Rattle.records.specs.Does.{Outcome, does, refuse}
use Rattle.records.specs.Reader.{found, meant}
use Rattle.records.specs.declared.command.Command.{Command}

-- 1 is said of what is no command, 2 of what is not known
abbrev pub outcome_of : (Meant → Bool) → ℕ → List Page → List ℕ → Option Command → Outcome
outcome_of known n ps t None = refuse 1
outcome_of known n ps t (Some c) = pick (known (meant t c)) (does n ps (meant t c)) (refuse 2)

unfoldable pub outcome : (Meant → Bool) → ℕ → List Page → List ℕ → Outcome
outcome known n ps t = outcome_of known n ps t (found t)

-- beside a house of logical pages
pub record PageMay (known : Meant → Bool) (n : ℕ) (ps : List Page) (t : List ℕ) (ss : List (List ℕ)) (r reply : ℕ) (ps₁ : List Page) : Type 0 where
  pub ends : reply ≡ (outcome known n ps t).reply
  pub shows : ss ≡ (outcome known n ps t).shows
  pub after : ps₁ ≡ written ps (outcome known n ps t).batch

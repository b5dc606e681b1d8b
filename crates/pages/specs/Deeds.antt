-- The two sides, and deeds whose numbers are in their ranges. Assumes nothing: these are definitions.
use Rattle.std.specs.Prelude.{◌≡◌, ℕ, ◌+◌, ◌*◌, ◌<◌, cond, ◌==◌, MatchResult, Result}
use Rattle.pages.specs.declared.side.NoSide.{NoSide}
use Rattle.pages.specs.declared.side.Side.{Side}
use Rattle.pages.specs.declared.side.Side.TheVariants.{First, Second}
use Rattle.pages.specs.declared.deed.Content.{Content}
use Rattle.pages.specs.declared.deed.Content.TheVariants.{Blank, Told, Header, Batch}
use Rattle.pages.specs.declared.deed.Deed.{Deed}
use Rattle.pages.specs.declared.deed.Deed.TheVariants.{Read, Write, Ready}

-- a side's number
abbrev pub side_number : Side → ℕ
side_number First = 0
side_number Second = 1

-- the side of a number, where it has one
abbrev pub SideOf : ℕ → Result Side NoSide → Type 0
SideOf n r = MatchResult r (λ s. n ≡ side_number s) (λ e. (1 < n) × (e.0 ≡ n))

-- the side of any number: all but 1 count as the first
abbrev pub side_at : ℕ → Side
side_at n = cond (n == 1) Second First

abbrev pub other : Side → Side
other First = Second
other Second = First

-- twice the page, and the side; 0 where there is none
abbrev pub place_in : Deed → ℕ
place_in (Read s k) = 2 * k + side_number s
place_in (Write s k c) = 2 * k + side_number s
place_in Ready = 0

-- which page of the batch; 0 for what is none
abbrev pub in_content : Content → ℕ
in_content (Batch i) = i
in_content Blank = 0
in_content Told = 0
in_content Header = 0

abbrev pub batch_in : Deed → ℕ
batch_in (Write s k c) = in_content c
batch_in (Read s k) = 0
batch_in Ready = 0

pub record Bounded (d : Deed) : Type 0 where
  pub place : place_in d < 4294967296
  pub page : batch_in d < 29

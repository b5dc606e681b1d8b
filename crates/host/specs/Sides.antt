-- The files of a house. Assumes nothing: these are definitions.
use Rattle.std.specs.Prelude.{ℕ, ◌≤◌}

-- as many pages as a device may have
abbrev pub Housed : ℕ → Type 0
Housed n = (256 ≤ n) × (n ≤ 1048576)

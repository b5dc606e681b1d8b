-- A side's bytes, one page after the other, as the pages that they are. Assumes nothing: these are definitions.
use Rattle.std.specs.Prelude.{ℕ, zero, suc, ◌/◌, List, [], ◌∷◌, ◌++◌, length, take, drop}
use Rattle.pages.specs.Device.{Page}

unfoldable pub cut : ℕ → List ℕ → List Page
cut zero bs = []
cut (suc n) bs = take 512 bs ∷ cut n (drop 512 bs)

abbrev pub in_pages : List ℕ → List Page
in_pages bs = cut (length bs / 512) bs

-- the first bytes of a page, and the others of the one before
abbrev pub front : ℕ → Page → Page → Page
front n new old = take n new ++ drop n old

-- Pages at addresses: what a batch of them makes of a list of pages, and how often an address stands among them. Assumes nothing: these are definitions.
use Rattle.std.specs.Prelude.{ℕ, ◌+◌, List, [], ◌∷◌, ◌==◌}
use Rattle.pages.specs.Lists.{bit, pick}
use Rattle.pages.specs.Device.{Page, set_page}

pub record Cell : Type 0 where
  pub key : ℕ
  pub page : Page

abbrev pub cell : ℕ → Page → Cell
cell k p = record { key = k; page = p }

-- a batch written
unfoldable pub written : List Page → List Cell → List Page
written ps [] = ps
written ps (c ∷ cs) = set_page (written ps cs) c.key c.page

-- what stands at an address, if cells lie over something
unfoldable pub looked_up : List Cell → ℕ → Page → Page
looked_up [] k d = d
looked_up (c ∷ cs) k d = pick (c.key == k) c.page (looked_up cs k d)

unfoldable pub keys : List Cell → List ℕ
keys [] = []
keys (c ∷ cs) = c.key ∷ keys cs

unfoldable pub contents : List Cell → List Page
contents [] = []
contents (c ∷ cs) = c.page ∷ contents cs

-- how often a number stands in a list
unfoldable pub times : List ℕ → ℕ → ℕ
times [] k = 0
times (a ∷ rest) k = bit (a == k) + times rest k

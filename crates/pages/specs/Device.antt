-- Two devices of pages, side by side, of which one may be lost; and what a stop may leave of the write that was under way.
-- Assumes nothing: these are definitions.
use Rattle.std.specs.Prelude.{ℕ, zero, suc, Bool, ◌&&◌, List, [], ◌∷◌, ◌++◌, length, take, drop, ◌==◌, nat_lt}
use Rattle.pages.specs.Lists.{every, pick}

abbrev pub Page : Type 0
Page = List ℕ

-- a write lands when the next act is done; till then a stop may catch it
pub record Write : Type 0 where
  pub side : ℕ
  pub at : ℕ
  pub page : Page

pub record Device : Type 0 where
  pub first : List Page
  pub second : List Page
  pub under_way : List Write

unfoldable pub set_page : List Page → ℕ → Page → List Page
set_page [] k p = []
set_page (q ∷ qs) zero p = p ∷ qs
set_page (q ∷ qs) (suc k) p = q ∷ set_page qs k p

unfoldable pub page_at : List Page → ℕ → Page
page_at [] k = []
page_at (q ∷ qs) zero = q
page_at (q ∷ qs) (suc k) = page_at qs k

abbrev pub two : List Page → List Page → Device
two as₁ bs = record { first = as₁; second = bs; under_way = [] }

abbrev pub side_of : Device → ℕ → List Page
side_of d s = pick (s == 0) d.first d.second

abbrev pub with_page : Device → ℕ → ℕ → Page → Device
with_page d s k p = pick (s == 0) (two (set_page d.first k p) d.second) (two d.first (set_page d.second k p))

unfoldable pub landed_all : Device → List Write → Device
landed_all d [] = two d.first d.second
landed_all d (w ∷ ws) = landed_all (with_page d w.side w.at w.page) ws

abbrev pub landed : Device → Device
landed d = landed_all d d.under_way

abbrev pub read_page : Device → ℕ → ℕ → Page
read_page d s k = page_at (side_of (landed d) s) k

abbrev pub writing : Device → ℕ → ℕ → Page → Device
writing d s k p = record { first = (landed d).first; second = (landed d).second; under_way = record { side = s; at = k; page = p } ∷ [] }

-- a stop: of the write under way nothing (0), all (1), or its first 256 bytes (2) came onto its page
unfoldable pub half : Page → Page → Page
half new old = take 256 new ++ drop 256 old

unfoldable pub left : Device → List Write → ℕ → Device
left d [] c = two d.first d.second
left d (w ∷ ws) c =
    pick (c == 1) (with_page d w.side w.at w.page)
    (pick (c == 2) (with_page d w.side w.at (half w.page (page_at (side_of d w.side) w.at))) (two d.first d.second))

abbrev pub stopped : Device → ℕ → Device
stopped d c = left d d.under_way c

unfoldable pub zeros : ℕ → List ℕ
zeros zero = []
zeros (suc n) = 0 ∷ zeros n

unfoldable pub blank : ℕ → List Page
blank zero = []
blank (suc n) = zeros 512 ∷ blank n

-- one side is lost, and a blank one stands there
abbrev pub lost : Device → ℕ → Device
lost d s = pick (s == 0) (two (blank (length d.first)) d.second) (two d.first (blank (length d.second)))

abbrev pub a_page : Page → Bool
a_page p = length p == 512 && every (λ b. nat_lt b 256) p

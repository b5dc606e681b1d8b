-- The mirrored store: a header, two journal areas of 29 slots, and home pages; what one side means, and both together, with power and without.
-- Assumes nothing: these are definitions.
use Rattle.std.specs.Prelude.{◌≡◌, ℕ, zero, suc, ◌+◌, ◌-◌, ◌*◌, ◌<◌, ◌≤◌, Bool, true, false, ◌⊎◌, List, [], ◌∷◌, ◌++◌, length, drop, ◌==◌}
use Rattle.pages.specs.Lists.{pick, flat}
use Rattle.pages.specs.Bytes.{eight}
use Rattle.pages.specs.Device.{Page, page_at, zeros, blank, a_page}
use Rattle.pages.specs.Fields.{number, at}

-- THE HEADER: 32 numbers of eight bytes in the second half of page 0, which a torn write leaves as it was: a mark, the area that counts, how many
-- addresses, and the addresses
unfoldable pub head_number : Page → ℕ → ℕ
head_number p i = at (256 + 8 * i) 8 p

unfoldable pub mark : Page → Bool
mark p = head_number p 0 == 1

unfoldable pub area : Page → Bool
area p = head_number p 1 == 1

unfoldable pub count : Page → ℕ
count p = head_number p 2

unfoldable pub address : Page → ℕ → ℕ
address p i = head_number p (3 + i)

-- the page of 32 numbers
unfoldable pub header_page : List ℕ → Page
header_page ws = zeros 256 ++ flat eight ws

-- so many numbers of eight bytes each
unfoldable pub eights_of : ℕ → List ℕ → List ℕ
eights_of zero bs = []
eights_of (suc k) bs = number 8 bs ∷ eights_of k (drop 8 bs)

-- the 32 numbers of a header
unfoldable pub heads_of : Page → List ℕ
heads_of p = eights_of 32 (drop 256 p)

-- what a header says: this side counts, with that area, so many addresses, and those
pub record Heads (z : Page) (q : Bool) (c : ℕ) (f : ℕ → ℕ) : Type 0 where
  pub marks : mark z ≡ true
  pub which : area z ≡ q
  pub many : count z ≡ c
  pub names : (i : ℕ) → i < c → address z i ≡ f i

-- PAGES OF A SIDE
abbrev pub slot : Bool → ℕ → ℕ
slot false i = 1 + i
slot true i = 30 + i

-- the pages 1.. of a side, for a header that says q, c, f, give the logical pages s (whatever the header on page 0 is)
pub record Body (xs : List Page) (q : Bool) (c : ℕ) (f : ℕ → ℕ) (s : List Page) : Type 0 where
  pub few : c ≤ 29
  pub long : length xs ≡ 59 + length s
  pub named : (i : ℕ) → i < c → f i < length s
  pub slots : (i : ℕ) → i < c → page_at xs (slot q i) ≡ page_at s (f i)
  pub homes : (k : ℕ) → k < length s → ((i : ℕ) → i < c → ¬ (f i ≡ k)) → page_at xs (59 + k) ≡ page_at s k

pub record Side (xs : List Page) (q : Bool) (c : ℕ) (f : ℕ → ℕ) (s : List Page) : Type 0 where
  pub head : Heads (page_at xs 0) q c f
  pub body : Body xs q c f s

-- all home pages are current
abbrev pub Applied : List Page → List Page → Type 0
Applied xs s = (k : ℕ) → k < length s → page_at xs (59 + k) ≡ page_at s k

-- every page of a device is one, and there are n
pub record Sheets (n : ℕ) (xs : List Page) : Type 0 where
  pub size : length xs ≡ n
  pub valid : (k : ℕ) → k < n → a_page (page_at xs k) ≡ true

-- the logical pages s changed to t by c pages g at addresses f
pub record Changed (s : List Page) (c : ℕ) (f : ℕ → ℕ) (g : ℕ → Page) (t : List Page) : Type 0 where
  pub few : c ≤ 29
  pub size : length t ≡ length s
  pub named : (i : ℕ) → i < c → f i < length s
  pub pages : (i : ℕ) → i < c → a_page (g i) ≡ true
  pub put : (i : ℕ) → i < c → page_at t (f i) ≡ g i
  pub kept : (k : ℕ) → k < length s → ((i : ℕ) → i < c → ¬ (f i ≡ k)) → page_at t k ≡ page_at s k

-- POWERED AND IDLE
pub record Up (n : ℕ) (xs ys s : List Page) : Type 0 where
  pub q : Bool
  pub c : ℕ
  pub f : ℕ → ℕ
  pub sheets_0 : Sheets n xs
  pub sheets_1 : Sheets n ys
  pub side_0 : Side xs q c f s
  pub side_1 : Side ys q c f s
  pub applied_0 : Applied xs s
  pub applied_1 : Applied ys s

-- WITHOUT POWER, both marked: side 1 with its own header gives b, and with side 0's header it gives a as side 0 does
pub record Twain (xs ys a b : List Page) : Type 0 where
  pub q : Bool
  pub c : ℕ
  pub f : ℕ → ℕ
  pub q₁ : Bool
  pub c₁ : ℕ
  pub f₁ : ℕ → ℕ
  pub ahead : Side xs q c f a
  pub behind : Side ys q₁ c₁ f₁ b
  pub ready : Body ys q c f a

-- one is marked: d says which
pub record Alone (d : Bool) (xs ys s : List Page) : Type 0 where
  pub q : Bool
  pub c : ℕ
  pub f : ℕ → ℕ
  pub counts : Side (pick d ys xs) q c f s
  pub knows_nothing : mark (page_at (pick d xs ys) 0) ≡ false

abbrev pub new_pages : ℕ → List Page
new_pages n = blank (n - 59)

pub data Shape (n : ℕ) (xs ys a b : List Page) (both : Bool) : Type 0 where
  twain : Twain xs ys a b → Shape n xs ys a b both
  alone : (d : Bool) → Alone d xs ys a → a ≡ b → (both ≡ false) ⊎ (a ≡ new_pages n) → Shape n xs ys a b both
  none : mark (page_at xs 0) ≡ false → mark (page_at ys 0) ≡ false → a ≡ new_pages n → b ≡ new_pages n → Shape n xs ys a b both

pub record Off (n : ℕ) (xs ys a b : List Page) (both : Bool) : Type 0 where
  pub room : 59 ≤ n
  pub sheets_0 : Sheets n xs
  pub sheets_1 : Sheets n ys
  pub shape : Shape n xs ys a b both

-- WHAT POWER MENDS: when it has come up, both sides hold every page as it is, and losing either loses nothing
unfoldable pub Alike : Type 0
Alike =
    (n : ℕ) (xs ys s : List Page) → Up n xs ys s →
    ((k : ℕ) → 59 + k < n → (page_at xs (59 + k) ≡ page_at ys (59 + k)) × (page_at xs (59 + k) ≡ page_at s k))
    × Off n (blank n) ys s s false × Off n xs (blank n) s s false

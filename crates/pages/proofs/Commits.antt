-- A commit of a batch as a whole: what an engine owes, act by act, and that from `Up` it ends in `Up` of what is written.
use Rattle.std.proofs.Common.{◌≡◌, ℕ, suc, ◌+◌, ◌*◌, ◌<◌, ◌≤◌, Bool, true, not, List, length, get_or, sym, ◌∙◌, subst, arith}
use Rattle.pages.specs.Device.{Page, page_at, a_page}
use Rattle.pages.specs.Run.{Engine, Event, next, write, Step, Ran}
use Rattle.pages.specs.Frame.{One}
use Rattle.pages.specs.Cells.{Cell, keys, contents, written, times}
use Rattle.pages.specs.Store.{area, Heads, slot, Side, Up, Off}
use Rattle.pages.proofs.Safe.{Crash, Safe}
use Rattle.pages.proofs.Batch.{batch_changes}
use Rattle.pages.proofs.Recovers.{does}
use Rattle.pages.proofs.Commit.{commits}

-- a batch that fits n pages
pub record Batch (n : ℕ) (b : List Cell) : Type 0 where
  pub few : length b ≤ 29
  pub once : (k : ℕ) → times (keys b) k ≤ 1
  pub named : (i : ℕ) → i < length b → 59 + get_or (keys b) i 0 < n
  pub pages : (i : ℕ) → i < length b → a_page (page_at (contents b) i) ≡ true

-- the acts of a commit of b into area q, with whatever header page says so
pub record Committing (e : Engine) (q : Bool) (b : List Cell) : Type 0 where
  pub head : Page
  pub head_says : Heads head q (length b) (λ i. get_or (keys b) i 0)
  pub head_page : a_page head ≡ true
  pub slots : ℕ → Step
  pub homes : ℕ → Step
  pub slot_0 : ℕ → List ℕ
  pub slot_1 : ℕ → List ℕ
  pub home_0 : ℕ → List ℕ
  pub home_1 : ℕ → List ℕ
  pub head_0 : List ℕ
  pub head_1 : List ℕ
  pub puts_0 : (i : ℕ) → i < length b → slots i ≡ does (slot_0 i) (write 0 (slot q i) (page_at (contents b) i))
  pub puts_1 : (i : ℕ) → i < length b → e.step (slot_0 i) next ≡ does (slot_1 i) (write 1 (slot q i) (page_at (contents b) i))
  pub puts_on : (i : ℕ) → i < length b → e.step (slot_1 i) next ≡ slots (suc i)
  pub heads_0 : slots (length b) ≡ does head_0 (write 0 0 head)
  pub heads_1 : e.step head_0 next ≡ does head_1 (write 1 0 head)
  pub heads_on : e.step head_1 next ≡ homes 0
  pub sets_0 : (i : ℕ) → i < length b → homes i ≡ does (home_0 i) (write 0 (59 + get_or (keys b) i 0) (page_at (contents b) i))
  pub sets_1 : (i : ℕ) → i < length b → e.step (home_0 i) next ≡ does (home_1 i) (write 1 (59 + get_or (keys b) i 0) (page_at (contents b) i))
  pub sets_on : (i : ℕ) → i < length b → e.step (home_1 i) next ≡ homes (suc i)

-- q is the area that the header names before; the commit goes to the other
pub commit_batch : (e : Engine) (K : Crash) (Q : Ran → Type 0) (n : ℕ) (m : List ℕ) (xs ys s : List Page) (ev : Event) (ss : List (List ℕ)) (r : ℕ) →
    Up n xs ys s → (b : List Cell) → Batch n b → (q : Bool) → area (page_at xs 0) ≡ q → (C : Committing e (not q) b) →
    ((xs ys a₁ b₁ : List Page) → One a₁ s (written s b) → One b₁ s (written s b) → Off n xs ys a₁ b₁ true → K xs ys ss) →
    ((m : List ℕ) (xs ys : List Page) (ev : Event) (r₁ : ℕ) → r₁ ≡ r + 4 * length b + 2 → e.step m ev ≡ C.homes (length b) → Up n xs ys (written s b) → Safe e K Q m xs ys ev ss r₁) →
    e.step m ev ≡ C.slots 0 → Safe e K Q m xs ys ev ss r
commit_batch e K Q n m xs ys s ev ss r u b ok q qe C at_stop then p =
    let ll = u.side_0.body.long in
    let lx = u.sheets_0.size in
    let uq : u.q ≡ q = sym u.side_0.head.which ∙ qe in
    commits e K Q n s (written s b) ss r q u.c u.f (length b) (λ i. get_or (keys b) i 0) (λ i. page_at (contents b) i) C.head C.head_says C.head_page
    (batch_changes s b ok.few ok.once (λ i li. let w = ok.named i li in omega arith) ok.pages)
    C.slots C.homes C.slot_0 C.slot_1 C.home_0 C.home_1 C.head_0 C.head_1
    C.puts_0 C.puts_1 C.puts_on C.heads_0 C.heads_1 C.heads_on C.sets_0 C.sets_1 C.sets_on
    at_stop then m xs ys ev u (subst (λ q. Side xs q u.c u.f s) uq u.side_0) (subst (λ q. Side ys q u.c u.f s) uq u.side_1) p

-- powered and idle, a logical page is one read of side 0
pub up_page : (n : ℕ) (xs ys s : List Page) → Up n xs ys s → (k : ℕ) → 59 + k < n → page_at xs (59 + k) ≡ page_at s k
up_page n xs ys s u k h = let l = u.side_0.body.long in let lx = u.sheets_0.size in u.applied_0 k (omega arith)

-- A batch of cells with distinct keys, written, is a change as a commit makes it.
use Rattle.std.proofs.Common.{◌≡◌, ℕ, zero, suc, ◌+◌, ◌<◌, ◌≤◌, true, eqb, List, [], ◌∷◌, length, get_or, refl, ap, ◌∙◌, arith}
use Rattle.std.proofs.lemmas.Bool.{eq-eqb}
use Rattle.pages.specs.Lists.{bit}
use Rattle.pages.specs.Device.{Page, page_at, a_page}
use Rattle.pages.specs.Cells.{Cell, keys, contents, written, times}
use Rattle.pages.specs.Store.{Changed}
use Rattle.pages.proofs.Cells.{length_written}
use Rattle.pages.proofs.Pages.{page_at_set, page_at_other}

pub keys_long : (b : List Cell) → length (keys b) ≡ length b
unfolding keys
keys_long [] = refl
keys_long (c ∷ b) = ap suc (keys_long b)

pub standing : (as₁ : List ℕ) (i : ℕ) → i < length as₁ → 1 ≤ times as₁ (get_or as₁ i 0)
unfolding times
standing [] i l = let no : ⊥ = omega arith in absurd no
standing (a ∷ as₁) zero l = rw (eq-eqb a a refl) (omega arith)
standing (a ∷ as₁) (suc i) l = let h = standing as₁ i (omega arith) in omega arith

-- the first stands apart from the others
pub apart : (a : ℕ) (as₁ : List ℕ) (i : ℕ) → i < length as₁ → ((k : ℕ) → times (a ∷ as₁) k ≤ 1) → ¬ (a ≡ get_or as₁ i 0)
unfolding times
apart a as₁ i l h e =
    let x = get_or as₁ i 0 in
    let s = standing as₁ i l in
    let o : bit (eqb a x) + times as₁ x ≤ 1 = h x in
    let no : ⊥ = omega (arith, rw (eq-eqb a x e) at o) in no

pub rest_once : (a : ℕ) (as₁ : List ℕ) → ((k : ℕ) → times (a ∷ as₁) k ≤ 1) → (k : ℕ) → times as₁ k ≤ 1
unfolding times
rest_once a as₁ h k = let o = h k in omega arith

written_put : (ps : List Page) (b : List Cell) → ((k : ℕ) → times (keys b) k ≤ 1) → (i : ℕ) → i < length b → get_or (keys b) i 0 < length ps →
    page_at (written ps b) (get_or (keys b) i 0) ≡ page_at (contents b) i
unfolding written keys contents page_at
written_put ps [] h i l r = let no : ⊥ = omega arith in absurd no
written_put ps (c ∷ b) h zero l r = page_at_set (written ps b) c.key c.page (rw (length_written ps b) r)
written_put ps (c ∷ b) h (suc i) l r =
    page_at_other (written ps b) c.key (get_or (keys b) i 0) c.page (apart c.key (keys b) i (rw (keys_long b) (omega arith)) h)
    ∙ written_put ps b (rest_once c.key (keys b) h) i (omega arith) r

written_kept : (ps : List Page) (b : List Cell) (k : ℕ) → ((i : ℕ) → i < length b → ¬ (get_or (keys b) i 0 ≡ k)) → page_at (written ps b) k ≡ page_at ps k
unfolding written keys
written_kept ps [] k h = refl
written_kept ps (c ∷ b) k h = page_at_other (written ps b) c.key k c.page (h 0 (omega arith)) ∙ written_kept ps b k (λ i l. h (suc i) (omega arith))

pub batch_changes : (ps : List Page) (b : List Cell) → length b ≤ 29 → ((k : ℕ) → times (keys b) k ≤ 1) → ((i : ℕ) → i < length b → get_or (keys b) i 0 < length ps) →
    ((i : ℕ) → i < length b → a_page (page_at (contents b) i) ≡ true) → Changed ps (length b) (λ i. get_or (keys b) i 0) (λ i. page_at (contents b) i) (written ps b)
batch_changes ps b few once named pages =
    record {
      few = few;
      size = length_written ps b;
      named = named;
      pages = pages;
      put = λ i li. written_put ps b once i li (named i li);
      kept = λ k lk hk. written_kept ps b k hk;
    }

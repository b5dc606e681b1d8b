-- Pages that hold a plain house: the relation, and what is read of such pages.
use Rattle.std.proofs.Common.{◌≡◌, ℕ, zero, suc, ◌+◌, ◌-◌, ◌*◌, ◌<◌, ◌≤◌, true, List, [], ◌∷◌, ◌++◌, length, sym, refl, ap, ◌∙◌, ap₂, arith}
use Rattle.std.proofs.lemmas.List.{drop_at, take_at}
use Rattle.pages.specs.Bytes.{all_bytes}
use Rattle.pages.specs.Device.{Page, page_at, a_page}
use Rattle.pages.specs.Fields.{pad}
use Rattle.pages.specs.Cells.{Cell, looked_up, written, times}
use Rattle.pages.proofs.Fields.{length_fields, length_pad, length_zeros}
use Rattle.pages.proofs.Cells.{tk}
use Rattle.recurrence.specs.Event.{an_event}
use Rattle.records.specs.House.{Plain, weight, Turn}
use Rattle.records.specs.Layout.{Slot, Owner, Ghost, plain, all_cells, person_record, rec, row, image, further, body_length}
use Rattle.records.specs.Does.{Outcome, block, put_block}
use Rattle.records.specs.Promise.{TurnMay}

-- EACH: of all members
unfoldable pub Each : {A : Type 0} → (A → Type 0) → List A → Type 0
Each P [] = Unit
Each P (x ∷ xs) = P x × Each P xs

unfoldable pub numbers_of : List Slot → List ℕ
numbers_of [] = []
numbers_of (s ∷ ss) = s.number ∷ numbers_of ss

pub record SoundSlot (s : Slot) : Type 0 where
  pub fits : an_event s.event ≡ true
  pub count : length s.more ≡ further (body_length (length s.event.title) (length s.event.left_out))

pub record SoundOwner (b : ℕ) (o : Owner) : Type 0 where
  pub slots : Each SoundSlot o.chain
  pub once : (k : ℕ) → times (numbers_of o.chain) k ≤ 1
  pub below : (k : ℕ) → 1 ≤ times (numbers_of o.chain) k → k < o.next
  pub small : o.next ≤ b
  pub short : length o.name ≤ 64
  pub bytes : all_bytes o.name ≡ true

pub record Sound (n b : ℕ) (g : Ghost) : Type 0 where
  pub size : 256 ≤ n
  pub top : n ≤ 1048576
  pub owners_sound : Each (SoundOwner b) g.owners
  pub few : length g.owners ≤ 256
  pub once : (k : ℕ) → tk (all_cells g.owners) k ≤ 1
  pub range : (k : ℕ) → 1 ≤ tk (all_cells g.owners) k → (65 ≤ k) × (k < n - 59)
  pub light : weight (plain g) ≤ 128 * n
  pub cursor_in : g.cursor < n - 124

-- HOLDS: n pages of each side, of which 59 are no logical pages; no next number is above b
pub record Holds (n b : ℕ) (ps : List Page) (w : Plain) : Type 0 where
  pub ghost : Ghost
  pub is : plain ghost ≡ w
  pub sound : Sound n b ghost
  pub size : length ps ≡ n - 59
  pub shown : (k : ℕ) → k < length ps → page_at ps k ≡ image ghost k

-- a batch that can be committed
pub record Fine (ps : List Page) (batch : List Cell) : Type 0 where
  pub pages_ok : (k : ℕ) → 1 ≤ tk batch k → a_page (looked_up batch k []) ≡ true
  pub inside : (k : ℕ) → 1 ≤ tk batch k → k < length ps
  pub apart : (k : ℕ) → tk batch k ≤ 1
  pub few : length batch ≤ 29

pub record Result (n b : ℕ) (ps : List Page) (w : Plain) (t : Turn) (o : Outcome) : Type 0 where
  pub after : Plain
  pub may : TurnMay n w t o.shows o.reply after
  pub holds : Holds n b (written ps o.batch) after
  pub fine : Fine ps o.batch

-- A RECORD in a page of people
length_record : (o : Owner) → length (person_record o) ≡ 128
unfolding person_record
length_record o = length_fields _ (pad 115 o.name) ∙ ap (λ k. 13 + k) (length_pad 115 o.name)

pub length_rec : (os : List Owner) (i : ℕ) → length (rec os i) ≡ 128
unfolding rec
length_rec [] i = length_zeros 128
length_rec (o ∷ os) zero = length_record o
length_rec (o ∷ os) (suc i) = length_rec os i

pub block_row : (os : List Owner) (r m i : ℕ) → r < m → (z : List ℕ) × (block r (row os i m) ≡ rec os (i + r) ++ z)
unfolding block row
block_row os r zero i h = let no : ⊥ = omega arith in absurd no
block_row os zero (suc m) i h = (row os (suc i) m, ap (λ j. rec os j ++ row os (suc i) m) (omega arith))
block_row os (suc r) (suc m) i h =
    let ih = block_row os r m (suc i) (omega arith) in
    (ih.0, ap (block r) (drop_at (rec os i) (row os (suc i) m) 128 (length_rec os i)) ∙ ih.1 ∙ ap (λ j. rec os j ++ ih.0) (omega arith))

pub row_same : (os os₁ : List Owner) (m i : ℕ) → ((j : ℕ) → i ≤ j → j < i + m → rec os₁ j ≡ rec os j) → row os i m ≡ row os₁ i m
unfolding row
row_same os os₁ zero i h = refl
row_same os os₁ (suc m) i h = ap₂ ◌++◌ (sym (h i (omega arith) (omega arith))) (row_same os os₁ m (suc i) (λ j l u. h j (omega arith) (omega arith)))

pub put_row : (os os₁ : List Owner) (b : List ℕ) (r m i : ℕ) → r < m → rec os₁ (i + r) ≡ b → ((j : ℕ) → ¬ (j ≡ i + r) → rec os₁ j ≡ rec os j) →
    put_block r b (row os i m) ≡ row os₁ i m
unfolding put_block row
put_row os os₁ b r zero i h p q = let no : ⊥ = omega arith in absurd no
put_row os os₁ b zero (suc m) i h p q =
    ap₂ ◌++◌ (sym p ∙ ap (rec os₁) (omega arith)) (drop_at (rec os i) (row os (suc i) m) 128 (length_rec os i) ∙ row_same os os₁ m (suc i) (λ j l u. q j (omega arith)))
put_row os os₁ b (suc r) (suc m) i h p q =
    ap₂ ◌++◌ (take_at (rec os i) (row os (suc i) m) 128 (length_rec os i) ∙ sym (q i (omega arith)))
    (ap (put_block r b) (drop_at (rec os i) (row os (suc i) m) 128 (length_rec os i))
    ∙ put_row os os₁ b r m (suc i) (omega arith) (ap (rec os₁) (omega arith) ∙ p) (λ j l. q j (omega arith)))

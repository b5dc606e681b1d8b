-- The rules of `Safe` with what the goal shows left out: where to, and what is done, is written; the rest is read off.
use Rattle.std.proofs.Common.{◌≡◌, ℕ, suc, ◌<◌, true, List, [], ◌∷◌, ◌++◌, length}
use Rattle.pages.specs.Device.{Page, two, set_page, page_at, half, a_page}
use Rattle.pages.specs.Run.{Engine, Event, page, next, read, write, shows, done, refused, Ran, on_device, ran, refusal_end}
use Rattle.pages.proofs.Safe.{Crash, Safe}
use Rattle.pages.proofs.Safe as s

module _ {e : Engine} {K : Crash} {Q : Ran → Type 0} where
  pub reads_0 : {m : List ℕ} {xs ys : List Page} {ev : Event} {ss : List (List ℕ)} {r : ℕ} (m₁ : List ℕ) (k : ℕ) →
      e.step m ev ≡ record { memory = m₁; act = read 0 k } → Safe e K Q m₁ xs ys (page (page_at xs k)) ss (suc r) → Safe e K Q m xs ys ev ss r
  reads_0 {m} {xs} {ys} {ev} {ss} {r} m₁ k p h = s.reads_0 e K Q m m₁ xs ys ev ss r k p h

  pub reads_1 : {m : List ℕ} {xs ys : List Page} {ev : Event} {ss : List (List ℕ)} {r : ℕ} (m₁ : List ℕ) (k : ℕ) →
      e.step m ev ≡ record { memory = m₁; act = read 1 k } → Safe e K Q m₁ xs ys (page (page_at ys k)) ss (suc r) → Safe e K Q m xs ys ev ss r
  reads_1 {m} {xs} {ys} {ev} {ss} {r} m₁ k p h = s.reads_1 e K Q m m₁ xs ys ev ss r k p h

  pub says : {m : List ℕ} {xs ys : List Page} {ev : Event} {ss : List (List ℕ)} {r : ℕ} (m₁ row : List ℕ) →
      e.step m ev ≡ record { memory = m₁; act = shows row } → K xs ys ss → Safe e K Q m₁ xs ys next (ss ++ row ∷ []) r → Safe e K Q m xs ys ev ss r
  says {m} {xs} {ys} {ev} {ss} {r} m₁ row p h q = s.says e K Q m m₁ xs ys ev ss r row p h q

  pub finishes : {m : List ℕ} {xs ys : List Page} {ev : Event} {ss : List (List ℕ)} {r : ℕ} (m₁ : List ℕ) →
      e.step m ev ≡ record { memory = m₁; act = done } → K xs ys ss → Q (ran (on_device m₁ (two xs ys)) ss r 0) → Safe e K Q m xs ys ev ss r
  finishes {m} {xs} {ys} {ev} {ss} {r} m₁ p h q = s.finishes e K Q m m₁ xs ys ev ss r p h q

  pub refuses : {m : List ℕ} {xs ys : List Page} {ev : Event} {ss : List (List ℕ)} {r : ℕ} (m₁ : List ℕ) (k : ℕ) →
      e.step m ev ≡ record { memory = m₁; act = refused k } → K xs ys ss → Q (ran (on_device m₁ (two xs ys)) ss r (refusal_end k)) → Safe e K Q m xs ys ev ss r
  refuses {m} {xs} {ys} {ev} {ss} {r} m₁ k p h q = s.refuses e K Q m m₁ xs ys ev ss r k p h q

  pub writes_0 : {m : List ℕ} {xs ys : List Page} {ev : Event} {ss : List (List ℕ)} {r : ℕ} (m₁ : List ℕ) (k : ℕ) (p : Page) →
      e.step m ev ≡ record { memory = m₁; act = write 0 k p } → k < length xs → a_page p ≡ true → K xs ys ss → K (set_page xs k (half p (page_at xs k))) ys ss →
      Safe e K Q m₁ (set_page xs k p) ys next ss (suc r) → Safe e K Q m xs ys ev ss r
  writes_0 {m} {xs} {ys} {ev} {ss} {r} m₁ k p q l ok h t c = s.writes_0 e K Q m m₁ xs ys ev ss r k p q l ok h t c

  pub writes_1 : {m : List ℕ} {xs ys : List Page} {ev : Event} {ss : List (List ℕ)} {r : ℕ} (m₁ : List ℕ) (k : ℕ) (p : Page) →
      e.step m ev ≡ record { memory = m₁; act = write 1 k p } → k < length xs → a_page p ≡ true → K xs ys ss → K xs (set_page ys k (half p (page_at ys k))) ss →
      Safe e K Q m₁ xs (set_page ys k p) next ss (suc r) → Safe e K Q m xs ys ev ss r
  writes_1 {m} {xs} {ys} {ev} {ss} {r} m₁ k p q l ok h t c = s.writes_1 e K Q m m₁ xs ys ev ss r k p q l ok h t c

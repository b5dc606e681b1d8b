-- From what is owed of an engine to all runs of items, by one induction on the items.
use Rattle.std.proofs.Common.{ℕ, Bool, true, false, ltb, ◌⊎◌, List, [], ◌∷◌, length, refl, subst, inl, inr, ⊎_elim}
use mathlib.Core.Bool.{false≢true}
use Rattle.std.proofs.lemmas.Bool.{and_parts, ltb-true}
use Rattle.pages.specs.Run.{Engine, World, Item, power, power_stops, whole, stops, loses, ran_as, dark, proper_so, Right}
use Rattle.pages.specs.Frame.{One, Rule, Ended, Midway, Owed, UpRight, OffRight, Framework, Refines}

one_of : {S : Type 0} (c a b x y : S) → One c a b → One a x y → One b x y → One c x y
one_of c a b x y (inl p) ha hb = rw p ha
one_of c a b x y (inr p) ha hb = rw p hb

module _ {S : Type 0} (may : Rule S) (e : Engine) (Up : ℕ → World → S → Type 0) (Off : ℕ → World → S → S → Bool → Type 0) (o : Owed may e Up Off) where
  up_whole : (t : List ℕ) (is : List Item) → UpRight may e Up is → UpRight may e Up (whole t ∷ is)
  unfolding UpRight Right proper_so
  up_whole t is ih v s u p =
      let a = o.answers (length is) v s u t in
      (a.0, a.1, a.2, ih _ a.1 a.3 p)

  up_stops : (t : List ℕ) (n c : ℕ) (is : List Item) → OffRight may e Off is → UpRight may e Up (stops t n c ∷ is)
  unfolding UpRight OffRight Right proper_so
  up_stops t n c is ih v s u p = go (o.answering (length is) v s u t n c)
    where
      go : Ended may (Off (length is)) s t (ran_as e n v t) c ⊎ Midway may (Off (length is)) s t (ran_as e n v t) c → Right may (λ x. x) e v s (stops t n c ∷ is)
      go (inl d) =
          let r = ih _ d.after d.after true d.left p in
          (d.after, inl d.told, subst (λ x. Right may (λ y. y) e (dark (ran_as e n v t).here c) x is) (⊎_elim (λ x. x) (λ x. x) r.1) r.2)
      go (inr m) =
          let r = ih _ m.one m.other true m.left p in
          (r.0, inr (m.running, m.more, m.used, m.reply, m.after, m.told, one_of r.0 m.one m.other s m.after r.1 m.one_is m.other_is), r.2)

  off_power : (is : List Item) → UpRight may e Up is → OffRight may e Off (power ∷ is)
  unfolding UpRight OffRight Right proper_so
  off_power is ih v a b both h p =
      let w = o.wakes (length is) v a b both h in
      (w.1, w.2, (w.0, w.3, w.4, ih _ w.1 w.5 p))

  off_power_stops : (n c : ℕ) (is : List Item) → OffRight may e Off is → OffRight may e Off (power_stops n c ∷ is)
  unfolding OffRight Right proper_so
  off_power_stops n c is ih v a b both h p =
      let w = o.waking (length is) v a b both h n c in
      let r = ih _ w.2 w.3 both w.6 p in
      (r.0, one_of r.0 w.2 w.3 a b r.1 w.4 w.5, (w.0, w.1, r.2))

  off_loses : (k : ℕ) (is : List Item) → OffRight may e Off is → OffRight may e Off (loses k ∷ is)
  unfolding OffRight Right proper_so
  off_loses k is ih v a b true h p =
      let l = o.losing (length is) v a b h k (ltb-true k 2 (and_parts (ltb k 2) _ p).0) in
      let r = ih _ l.0 l.0 false l.2 (and_parts (ltb k 2) _ p).1 in
      (r.0, one_of r.0 l.0 l.0 a b r.1 l.1 l.1, r.2)
  off_loses k is ih v a b false h p = absurd (false≢true p)

  pub items_right : (is : List Item) → UpRight may e Up is × OffRight may e Off is
  unfolding UpRight OffRight Right proper_so
  items_right [] = (λ v s u p. refl, λ v a b both h p. (a, inl refl, refl))
  items_right (power ∷ is) = (λ v s u p. absurd (false≢true p), off_power is (items_right is).0)
  items_right (power_stops n c ∷ is) = (λ v s u p. absurd (false≢true p), off_power_stops n c is (items_right is).1)
  items_right (whole t ∷ is) = (up_whole t is (items_right is).0, λ v a b both h p. absurd (false≢true p))
  items_right (stops t n c ∷ is) = (up_stops t n c is (items_right is).1, λ v a b both h p. absurd (false≢true p))
  items_right (loses k ∷ is) = (λ v s u p. absurd (false≢true p), off_loses k is (items_right is).1)

pub framework : Framework
framework S may e Up Off o is = items_right may e Up Off o is

-- beside a plainer house
module _ {S W : Type 0} (may : Rule S) (may₂ : Rule W) (Beside : ℕ → S → W → Type 0) (rf : Refines may may₂ Beside) (e : Engine) where
  pub refined : (is : List Item) (v : World) (s : S) (w : W) → Beside (length is) s w → Right may (λ x. x) e v s is → Right may₂ (λ x. x) e v w is
  unfolding Right
  refined [] v s w h r = r
  refined (power ∷ is) v s w h r = (r.0, r.1, r.2, refined is _ s w (rf.0 _ s w h) r.3)
  refined (power_stops n c ∷ is) v s w h r = (r.0, r.1, refined is _ s w (rf.0 _ s w h) r.2)
  refined (loses k ∷ is) v s w h r = refined is _ s w (rf.0 _ s w h) r
  refined (whole t ∷ is) v s w h r =
      let x = rf.1 _ s w t _ _ _ r.1 h r.2 in
      (r.0, x.0, x.1, refined is _ r.1 x.0 x.2 r.3)
  refined (stops t n c ∷ is) v s w h r =
      elim r.1 [
        | inl q ↦ let x = rf.1 _ s w t _ _ _ r.0 h q in (x.0, inl x.1, refined is _ r.0 x.0 x.2 r.2)
        | inr q ↦ let x = rf.1 _ s w t _ _ _ q.4 h q.5 in
            elim q.6 [
              | inl p ↦ (w, inr (q.0, q.1, q.2, q.3, x.0, x.1, inl refl), refined is _ r.0 w (rw p (rf.0 _ s w h)) r.2)
              | inr p ↦ (x.0, inr (q.0, q.1, q.2, q.3, x.0, x.1, inr refl), refined is _ r.0 x.0 (rw p x.2) r.2)
            ]
      ]

-- Entries of the plain house beside a chain; blank cells; an event found.
use Rattle.std.proofs.Common.{◌≡◌, ℕ, suc, ◌+◌, ◌-◌, ◌<◌, ◌≤◌, Bool, true, false, not, eqb, ◌⊎◌, List, [], ◌∷◌, ◌++◌, length, take, drop, sym, refl, ap, ◌∙◌, inl, inr, append_assoc, append-nil, zero-le, arith, length-append}
use Rattle.std.proofs.lemmas.Bool.{eq-eqb}
use Rattle.pages.specs.Lists.{each, those}
use Rattle.pages.specs.Device.{Page, page_at, zeros}
use Rattle.pages.specs.Cells.{Cell, looked_up, times, keys}
use Rattle.pages.proofs.Cells.{tk, looked_append, looked_up_absent, looked_up_present, Here, present, absent, here, zero_or}
use Rattle.recurrence.specs.Event.{Event}
use Rattle.records.specs.Layout.{Slot, Owner, Ghost, entry, entries_of, slot_cells, head_or, chain_cells, all_cells, image}
use Rattle.records.specs.House.{Entry, changed, event_weight}
use Rattle.records.specs.Does.{blanks, spot, walk, spot_in}
use Rattle.records.proofs.Holds.{Each, Sound, SoundOwner, numbers_of}
use Rattle.records.proofs.Chains.{owner_at, each_get, each_join, cells_at, entry_weights, weights_append, all_light, keys_append}
use Rattle.records.proofs.Readings.{reading}
use Rattle.records.proofs.Find.{Seen, chain_seen, last_or, walk_none, walk_there}

-- LISTS
pub each_append : {A B : Type 0} (f : A → B) (xs ys : List A) → each f (xs ++ ys) ≡ each f xs ++ each f ys
each_append f [] ys = refl
each_append f (x ∷ xs) ys = ap (λ z. f x ∷ z) (each_append f xs ys)

pub those_append : {A : Type 0} (p : A → Bool) (xs ys : List A) → those p (xs ++ ys) ≡ those p xs ++ those p ys
those_append p [] ys = refl
those_append p (x ∷ xs) ys = go (p x) refl (those_append p xs ys)
  where
    go : (t : Bool) → p x ≡ t → those p (xs ++ ys) ≡ those p xs ++ those p ys → those p ((x ∷ xs) ++ ys) ≡ those p (x ∷ xs) ++ those p ys
    go true q ih = rw q (ap (λ z. x ∷ z) ih)
    go false q ih = rw q ih

-- ENTRIES
pub entries_append : (cs ss : List Slot) → entries_of (cs ++ ss) ≡ entries_of ss ++ entries_of cs
entries_append [] ss = sym (append-nil (entries_of ss))
entries_append (c ∷ cs) ss = ap (λ z. z ++ entry c ∷ []) (entries_append cs ss) ∙ append_assoc (entries_of ss) (entries_of cs) (entry c ∷ [])

pub numbers_append : (cs ss : List Slot) (k : ℕ) → times (numbers_of (cs ++ ss)) k ≡ times (numbers_of cs) k + times (numbers_of ss) k
unfolding numbers_of times
numbers_append [] ss k = omega arith
numbers_append (c ∷ cs) ss k = let h = numbers_append cs ss k in omega arith

-- of entries that have other numbers
unfoldable pub Other : ℕ → Entry → Type 0
Other num x = eqb x.number num ≡ false

pub others : (ss : List Slot) (num : ℕ) → times (numbers_of ss) num ≡ 0 → Each (Other num) (entries_of ss)
unfolding Each Other numbers_of times
others [] num z = tt
others (s ∷ ss) num z = go (eqb s.number num) refl (others ss num)
  where
    go : (t : Bool) → eqb s.number num ≡ t → (times (numbers_of ss) num ≡ 0 → Each (Other num) (entries_of ss)) → Each (Other num) (entries_of (s ∷ ss))
    go true q ih = let no : ⊥ = omega (arith, rw q at z) in absurd no
    go false q ih = each_join (Other num) (entries_of ss) (entry s ∷ []) (ih (omega (arith, rw q at z))) (q, tt)

pub none_there : (xs : List Entry) (num : ℕ) → Each (Other num) xs → those (λ x. eqb x.number num) xs ≡ []
unfolding Each Other
none_there [] num h = refl
none_there (x ∷ xs) num h = rw h.0 (none_there xs num h.1)

all_stay : (xs : List Entry) (num : ℕ) → Each (Other num) xs → those (λ x. not (eqb x.number num)) xs ≡ xs
unfolding Each Other
all_stay [] num h = refl
all_stay (x ∷ xs) num h = rw h.0 (ap (λ z. x ∷ z) (all_stay xs num h.1))

none_changed : (xs : List Entry) (num : ℕ) (e : Event) → Each (Other num) xs → each (changed num e) xs ≡ xs
unfolding Each Other
none_changed [] num e h = refl
none_changed (x ∷ xs) num e h = rw h.0 (ap (λ z. x ∷ z) (none_changed xs num e h.1))

pub entry_none : (ss : List Slot) (num : ℕ) → times (numbers_of ss) num ≡ 0 → those (λ x. eqb x.number num) (entries_of ss) ≡ []
entry_none ss num z = none_there (entries_of ss) num (others ss num z)

module _ (cs : List Slot) (s : Slot) (ss : List Slot) (num : ℕ) (zc : times (numbers_of cs) num ≡ 0) (zs : times (numbers_of ss) num ≡ 0) (is : s.number ≡ num) where
  pub entries_split : entries_of (cs ++ s ∷ ss) ≡ (entries_of ss ++ entry s ∷ []) ++ entries_of cs
  entries_split = entries_append cs (s ∷ ss)

  parts : (p : Entry → Bool) → those p (entries_of (cs ++ s ∷ ss)) ≡ (those p (entries_of ss) ++ those p (entry s ∷ [])) ++ those p (entries_of cs)
  parts p = ap (those p) entries_split ∙ those_append p (entries_of ss ++ entry s ∷ []) (entries_of cs) ∙ ap (λ z. z ++ those p (entries_of cs)) (those_append p (entries_of ss) (entry s ∷ []))

  pub entry_there : those (λ x. eqb x.number num) (entries_of (cs ++ s ∷ ss)) ≡ entry s ∷ []
  entry_there =
      parts (λ x. eqb x.number num)
      ∙ rw (none_there (entries_of ss) num (others ss num zs), none_there (entries_of cs) num (others cs num zc), eq-eqb s.number num is)

  pub dropped_there : those (λ x. not (eqb x.number num)) (entries_of (cs ++ s ∷ ss)) ≡ entries_of (cs ++ ss)
  dropped_there =
      parts (λ x. not (eqb x.number num))
      ∙ rw (all_stay (entries_of ss) num (others ss num zs), all_stay (entries_of cs) num (others cs num zc), eq-eqb s.number num is, append-nil (entries_of ss)) (sym (entries_append cs ss))

  pub changed_there : (e : Event) (x : ℕ) (as₁ : List ℕ) →
      each (changed num e) (entries_of (cs ++ s ∷ ss)) ≡ entries_of (cs ++ record { number = num; event = e; place = x; more = as₁ } ∷ ss)
  changed_there e x as₁ =
      ap (each (changed num e)) entries_split ∙ each_append (changed num e) (entries_of ss ++ entry s ∷ []) (entries_of cs)
      ∙ ap (λ z. z ++ each (changed num e) (entries_of cs)) (each_append (changed num e) (entries_of ss) (entry s ∷ []))
      ∙ rw (none_changed (entries_of ss) num e (others ss num zs), none_changed (entries_of cs) num e (others cs num zc), eq-eqb s.number num is)
      (sym (entries_append cs (record { number = num; event = e; place = x; more = as₁ } ∷ ss)))

pub weights_split : (cs : List Slot) (s : Slot) (ss : List Slot) → entry_weights (entries_of (cs ++ s ∷ ss)) ≡ entry_weights (entries_of (cs ++ ss)) + event_weight s.event
weights_split cs s ss =
    let a = ap entry_weights (entries_append cs (s ∷ ss)) in
    let b = weights_append (entries_of ss ++ entry s ∷ []) (entries_of cs) in
    let c = weights_append (entries_of ss) (entry s ∷ []) in
    let d = ap entry_weights (entries_append cs ss) in
    let f = weights_append (entries_of ss) (entries_of cs) in
    omega arith

-- BLANKS
pub blank_keys : (xs : List ℕ) → keys (blanks xs) ≡ xs
unfolding keys
blank_keys [] = refl
blank_keys (x ∷ xs) = ap (λ z. x ∷ z) (blank_keys xs)

pub blank_found : (xs : List ℕ) (k : ℕ) (d : Page) → 1 ≤ times xs k → looked_up (blanks xs) k d ≡ zeros 512
unfolding looked_up times
blank_found [] k d h = let no : ⊥ = omega arith in absurd no
blank_found (x ∷ xs) k d h = go (eqb x k) refl (λ z. blank_found xs k d z)
  where
    go : (t : Bool) → eqb x k ≡ t → (1 ≤ times xs k → looked_up (blanks xs) k d ≡ zeros 512) → looked_up (blanks (x ∷ xs)) k d ≡ zeros 512
    go true q ih = rw q
    go false q ih = rw q (ih (omega (arith, rw q at h)))

-- what is not written over is blanked
pub over : (new old : List Cell) (xs : List ℕ) (k : ℕ) → tk old k ≤ tk new k + times xs k → looked_up (new ++ blanks xs) k (looked_up old k (zeros 512)) ≡ looked_up new k (zeros 512)
over new old xs k h = looked_append new (blanks xs) k _ ∙ go (here new k) (zero_or (times xs k))
  where
    go : Here new k → (times xs k ≡ 0) ⊎ (1 ≤ times xs k) → looked_up new k (looked_up (blanks xs) k (looked_up old k (zeros 512))) ≡ looked_up new k (zeros 512)
    go (present p) _ = looked_up_present new k _ _ p
    go (absent z) (inl y) = ap (looked_up new k) (looked_up_absent (blanks xs) k _ (ap (λ z. times z k) (blank_keys xs) ∙ y) ∙ looked_up_absent old k _ (omega arith))
    go (absent z) (inr l) = ap (looked_up new k) (blank_found xs k _ l)

-- AN EVENT IS FOUND
pub chain_long : (ss : List Slot) (l : ℕ) → length ss ≤ length (keys (chain_cells ss l))
unfolding chain_cells keys
chain_long [] l = zero-le
chain_long (s ∷ ss) l =
    let ih = chain_long ss l in
    let k = ap length (keys_append (slot_cells (head_or ss l) s) (chain_cells ss l)) in
    let j = length-append (keys (slot_cells (head_or ss l) s)) (keys (chain_cells ss l)) in
    omega arith

module _ (n b : ℕ) (ps : List Page) (g : Ghost) (sd : Sound n b g) (sz : length ps ≡ n - 59) (sh : (k : ℕ) → k < length ps → page_at ps k ≡ image g k) (hb : b < 18446744073709551615)
    (a num : ℕ) (la : a < length g.owners) where
  abbrev owner : Owner
  owner = owner_at g.owners a

  pub chain_all_seen : Seen ps n owner.chain
  chain_all_seen =
      let so = each_get (SoundOwner b) g.owners a sd.owners_sound la in
      chain_seen n b ps g sd sz sh owner.chain (all_cells (take a g.owners)) (all_cells (drop (suc a) g.owners)) (cells_at g.owners a la) so.slots
      (λ k l. omega (arith, so.below k l, so.small))

  fuel : length owner.chain < length ps
  fuel =
      let pre = all_cells (take a g.owners) in
      let rest = all_cells (drop (suc a) g.owners) in
      let ch = chain_cells owner.chain 0 in
      let e = ap (λ c. length (keys c)) (cells_at g.owners a la) in
      let p = ap length (keys_append pre (ch ++ rest)) ∙ length-append (keys pre) (keys (ch ++ rest)) in
      let q = ap length (keys_append ch rest) ∙ length-append (keys ch) (keys rest) in
      let l = chain_long owner.chain 0 in
      let w = all_light b g.owners sd.owners_sound in
      omega (arith, sd.light, sd.size)

  pub spot_none : times (numbers_of owner.chain) num ≡ 0 → spot_in ps a num ≡ spot 0 0
  spot_none z = ap (λ h. walk (length ps) ps 0 h num) (reading n b ps g sd sz sh hb a la).head_so ∙ walk_none ps n num (length ps) owner.chain 0 chain_all_seen z

  pub spot_there : (cs : List Slot) (s : Slot) (ss : List Slot) → owner.chain ≡ cs ++ s ∷ ss → times (numbers_of cs) num ≡ 0 → s.number ≡ num → spot_in ps a num ≡ spot (last_or cs 0) s.place
  spot_there cs s ss e z is =
      let f : length (cs ++ s ∷ ss) < length ps = rw e at fuel in
      ap (λ h. walk (length ps) ps 0 h num) ((reading n b ps g sd sz sh hb a la).head_so ∙ ap (λ c. head_or c 0) e)
      ∙ walk_there ps n num (length ps) cs s ss 0 (rw e at chain_all_seen) z is (omega (arith, length-append cs (s ∷ ss)))

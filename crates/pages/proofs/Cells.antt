-- Pages at addresses: what is looked up, how often an address stands among them, and what is left of it when some are changed.
use Rattle.std.proofs.Common.{◌≡◌, ℕ, zero, suc, ◌+◌, ◌<◌, ◌≤◌, Bool, true, false, eqb, ◌⊎◌, List, [], ◌∷◌, ◌++◌, length, take, sym, refl, ap, ◌∙◌, inl, inr, zero-le, arith}
use Rattle.std.proofs.lemmas.Bool.{eq-eqb, ne_eqb, eqb-true, eqb-false}
use Rattle.pages.specs.Lists.{bit, pick, those, added_up}
use Rattle.pages.specs.Device.{Page, page_at, set_page}
use Rattle.pages.specs.Cells.{Cell, cell, written, looked_up, keys, times}
use Rattle.pages.proofs.Pages.{length_set_page, page_at_set, page_at_other}

pub zero_or : (n : ℕ) → (n ≡ 0) ⊎ (1 ≤ n)
zero_or zero = inl refl
zero_or (suc n) = inr (omega arith)

pub bit_small : (b : Bool) → bit b ≤ 1
bit_small true = omega arith
bit_small false = omega arith

pub times_append : (xs ys : List ℕ) (k : ℕ) → times (xs ++ ys) k ≡ times xs k + times ys k
unfolding times
times_append [] ys k = omega arith
times_append (x ∷ xs) ys k = let h = times_append xs ys k in omega arith

abbrev pub tk : List Cell → ℕ → ℕ
tk cs k = times (keys cs) k

pub tk_append : (xs ys : List Cell) (k : ℕ) → tk (xs ++ ys) k ≡ tk xs k + tk ys k
unfolding times keys
tk_append [] ys k = omega arith
tk_append (x ∷ xs) ys k = let h = tk_append xs ys k in omega arith

-- what is looked up
pub looked_append : (xs ys : List Cell) (k : ℕ) (d : Page) → looked_up (xs ++ ys) k d ≡ looked_up xs k (looked_up ys k d)
unfolding looked_up
looked_append [] ys k d = refl
looked_append (x ∷ xs) ys k d = rw (looked_append xs ys k d)

pub looked_up_absent : (xs : List Cell) (k : ℕ) (d : Page) → tk xs k ≡ 0 → looked_up xs k d ≡ d
unfolding looked_up times keys
looked_up_absent [] k d h = refl
looked_up_absent (x ∷ xs) k d h = go (eqb x.key k) refl (λ z. looked_up_absent xs k d z)
  where
    go : (b : Bool) → eqb x.key k ≡ b → (tk xs k ≡ 0 → looked_up xs k d ≡ d) → looked_up (x ∷ xs) k d ≡ d
    go true q ih = let no : ⊥ = omega (arith, rw q at h) in absurd no
    go false q ih = rw q (ih (omega (arith, rw q at h)))

pub looked_up_present : (xs : List Cell) (k : ℕ) (d e : Page) → 1 ≤ tk xs k → looked_up xs k d ≡ looked_up xs k e
unfolding looked_up times keys
looked_up_present [] k d e h = let no : ⊥ = omega arith in absurd no
looked_up_present (x ∷ xs) k d e h = go (eqb x.key k) refl (λ z. looked_up_present xs k d e z)
  where
    go : (b : Bool) → eqb x.key k ≡ b → (1 ≤ tk xs k → looked_up xs k d ≡ looked_up xs k e) → looked_up (x ∷ xs) k d ≡ looked_up (x ∷ xs) k e
    go true q ih = rw q
    go false q ih = rw q (ih (omega (arith, rw q at h)))

-- present or absent
pub data Here (xs : List Cell) (k : ℕ) : Type 0 where
  present : 1 ≤ tk xs k → Here xs k
  absent : tk xs k ≡ 0 → Here xs k

pub here : (xs : List Cell) (k : ℕ) → Here xs k
here xs k = go (eqb (tk xs k) 0) refl
  where
    go : (b : Bool) → eqb (tk xs k) 0 ≡ b → Here xs k
    go true q = absent (eqb-true _ _ q)
    go false q = let n : ¬ (tk xs k ≡ 0) = eqb-false _ _ q in present (omega arith)

pub looked_up_at : (pre post : List Cell) (a : ℕ) (p d : Page) → tk pre a ≡ 0 → looked_up (pre ++ cell a p ∷ post) a d ≡ p
unfolding looked_up
looked_up_at pre post a p d h = looked_append pre (cell a p ∷ post) a d ∙ looked_up_absent pre a _ h ∙ rw (eq-eqb a a refl)

-- THE FRAME: the middle is changed, by a batch that touches nothing else
pub frame : (pre old new post batch : List Cell) (k : ℕ) (d : Page) →
    tk pre k + tk old k + tk post k ≤ 1 → (1 ≤ tk batch k → tk pre k + tk post k ≡ 0) → (1 ≤ tk new k → tk pre k + tk post k ≡ 0) →
    looked_up batch k (looked_up old k d) ≡ looked_up new k d →
    looked_up batch k (looked_up (pre ++ (old ++ post)) k d) ≡ looked_up (pre ++ (new ++ post)) k d
frame pre old new post batch k d once hb hn local =
    ap (looked_up batch k) (eq old) ∙ go (here pre k) (here post k) ∙ sym (eq new)
  where
    eq : (m : List Cell) → looked_up (pre ++ (m ++ post)) k d ≡ looked_up pre k (looked_up m k (looked_up post k d))
    eq m = looked_append pre (m ++ post) k d ∙ ap (looked_up pre k) (looked_append m post k d)

    none : (m : List Cell) → (1 ≤ tk m k → tk pre k + tk post k ≡ 0) → 1 ≤ tk pre k + tk post k → tk m k ≡ 0
    none m f h = elim (here m k) [ present p ↦ let z = f p in omega arith | absent z ↦ z ]

    go : Here pre k → Here post k → looked_up batch k (looked_up pre k (looked_up old k (looked_up post k d))) ≡ looked_up pre k (looked_up new k (looked_up post k d))
    go (present p) _ =
        let b : tk batch k ≡ 0 = none batch hb (omega arith) in
        looked_up_absent batch k _ b ∙ looked_up_present pre k _ _ p
    go (absent p) (present q) =
        let b : tk batch k ≡ 0 = none batch hb (omega arith) in
        let n : tk new k ≡ 0 = none new hn (omega arith) in
        let o : tk old k ≡ 0 = omega arith in
        looked_up_absent batch k _ b ∙ looked_up_absent pre k _ p ∙ looked_up_absent old k _ o ∙ sym (looked_up_absent pre k _ p ∙ looked_up_absent new k _ n)
    go (absent p) (absent q) = rw (looked_up_absent post k d q) (rw (looked_up_absent pre k (looked_up old k d) p) (rw (looked_up_absent pre k (looked_up new k d) p) local))

pub length_written : (ps : List Page) (b : List Cell) → length (written ps b) ≡ length ps
unfolding written
length_written ps [] = refl
length_written ps (c ∷ b) = length_set_page (written ps b) c.key c.page ∙ length_written ps b

pub written_at : (ps : List Page) (b : List Cell) (k : ℕ) → k < length ps → page_at (written ps b) k ≡ looked_up b k (page_at ps k)
unfolding written looked_up
written_at ps [] k h = refl
written_at ps (c ∷ b) k h = go (eqb c.key k) refl (written_at ps b k h)
  where
    go : (t : Bool) → eqb c.key k ≡ t → page_at (written ps b) k ≡ looked_up b k (page_at ps k) → page_at (set_page (written ps b) c.key c.page) k ≡ pick (eqb c.key k) c.page (looked_up b k (page_at ps k))
    go true q ih = rw (q, eqb-true c.key k q) (page_at_set (written ps b) k c.page (rw (length_written ps b) h))
    go false q ih = rw q (page_at_other (written ps b) c.key k c.page (eqb-false c.key k q) ∙ ih)

-- ROOM: of so many different numbers, those that stand in a list are no more than the list is long
unfoldable pub met : List ℕ → List ℕ → ℕ
met xs ks = added_up (times ks) xs

met_none : (xs : List ℕ) → met xs [] ≡ 0
unfolding met times
met_none [] = refl
met_none (x ∷ xs) = let h = met_none xs in omega arith

met_one : (xs : List ℕ) (a : ℕ) (ks : List ℕ) → met xs (a ∷ ks) ≡ times xs a + met xs ks
unfolding met times
met_one [] a ks = refl
met_one (x ∷ xs) a ks = let h = met_one xs a ks in let s = swapped x a in omega arith
  where
    swapped : (x a : ℕ) → bit (eqb a x) ≡ bit (eqb x a)
    swapped x a = go (eqb x a) refl
      where
        go : (t : Bool) → eqb x a ≡ t → bit (eqb a x) ≡ bit (eqb x a)
        go true q = rw (eqb-true x a q)
        go false q = rw (q, ne_eqb a x (λ z. eqb-false x a q (sym z)))

pub met_small : (xs ks : List ℕ) → ((k : ℕ) → times xs k ≤ 1) → met xs ks ≤ length ks
met_small xs [] h = rw (met_none xs) zero-le
met_small xs (a ∷ ks) h = let p = met_one xs a ks in let q = met_small xs ks h in let r = h a in omega arith

-- those that are free, if what is not free stands in the list
pub free_many : (xs ks : List ℕ) (free : ℕ → Bool) → ((k : ℕ) → 1 ≤ times xs k → free k ≡ false → 1 ≤ times ks k) → length xs ≤ length (those free xs) + met xs ks
unfolding met times
free_many [] ks free h = zero-le
free_many (x ∷ xs) ks free h = go (free x) refl (free_many xs ks free (λ k l. h k (omega arith)))
  where
    go : (t : Bool) → free x ≡ t → length xs ≤ length (those free xs) + met xs ks → length (x ∷ xs) ≤ length (those free (x ∷ xs)) + met (x ∷ xs) ks
    go true q ih = rw q (omega arith)
    go false q ih = let l : 1 ≤ times (x ∷ xs) x = rw (eq-eqb x x refl) (omega arith) in let p = h x l q in rw q (omega arith)

pub times_those : (p : ℕ → Bool) (xs : List ℕ) (k : ℕ) → times (those p xs) k ≤ times xs k
unfolding times
times_those p [] k = zero-le
times_those p (x ∷ xs) k = go (p x) refl (times_those p xs k)
  where
    go : (t : Bool) → p x ≡ t → times (those p xs) k ≤ times xs k → times (those p (x ∷ xs)) k ≤ times (x ∷ xs) k
    go true q ih = rw q (omega arith)
    go false q ih = rw q (omega arith)

pub those_are : (p : ℕ → Bool) (xs : List ℕ) (k : ℕ) → 1 ≤ times (those p xs) k → p k ≡ true
unfolding times
those_are p [] k h = let no : ⊥ = omega arith in absurd no
those_are p (x ∷ xs) k h = go (p x) refl (λ z. those_are p xs k z)
  where
    go : (t : Bool) → p x ≡ t → (1 ≤ times (those p xs) k → p k ≡ true) → p k ≡ true
    go true q ih = more (eqb x k) refl
      where
        more : (t : Bool) → eqb x k ≡ t → p k ≡ true
        more true r = ap p (sym (eqb-true x k r)) ∙ q
        more false r = ih (omega (arith, rw (q, r) at h))
    go false q ih = ih (rw q at h)

pub times_take : (n : ℕ) (xs : List ℕ) (k : ℕ) → times (take n xs) k ≤ times xs k
unfolding times
times_take zero xs k = zero-le
times_take (suc n) [] k = zero-le
times_take (suc n) (x ∷ xs) k = let h = times_take n xs k in omega arith

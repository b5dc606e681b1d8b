-- What is owed of an engine, said by `Safe` over plain sides; and that it gives what the items want.
use Rattle.std.proofs.Common.{◌≡◌, ℕ, zero, suc, ◌<◌, Bool, true, false, eqb, ◌⊎◌, List, [], ◌∷◌, ◌++◌, length, sym, refl, ap, subst, inl, inr, arith}
use Rattle.pages.specs.Lists.{pick}
use Rattle.pages.specs.Device.{Device, Page, Write, two, left, stopped, blank}
use Rattle.pages.specs.Run.{Engine, Event, on, said, World, Ran, Item, on_device, runs, woken, ran_as, dark, without, proper_so, Right}
use Rattle.pages.specs.Frame.{One, Rule, Ended, Midway, Owed, OffRight}
use Rattle.pages.proofs.Safe.{Crash, Stand, Safe, stop_stand, weaker}
use Rattle.pages.proofs.Items.{items_right}

abbrev pub Sides : Type 0 → Type 1
Sides S = List Page → List Page → S → S → Bool → Type 0

abbrev pub Idle : Type 0 → Type 1
Idle S = List ℕ → List Page → List Page → S → Type 0

-- at a stop while power comes up
pub record Waking {S : Type 0} (Off : Sides S) (a b : S) (both : Bool) (xs ys : List Page) (ss : List (List ℕ)) : Type 0 where
  pub silent : ss ≡ []
  pub one : S
  pub other : S
  pub one_is : One one a b
  pub other_is : One other a b
  pub left : Off xs ys one other both

pub record IdleWorld {S : Type 0} (Up : Idle S) (v : World) (s : S) : Type 0 where
  pub calm : v.device.under_way ≡ []
  pub up : Up v.memory v.device.first v.device.second s

pub record Woke {S : Type 0} (Up : Idle S) (a b : S) (g : Ran) : Type 0 where
  pub well : g.end ≡ 0
  pub silent : g.showed ≡ []
  pub now : S
  pub now_is : One now a b
  pub here : IdleWorld Up g.here now

-- at a stop while a command runs
pub record Saying {S : Type 0} (may : Rule S) (Off : Sides S) (s : S) (t : List ℕ) (xs ys : List Page) (ss : List (List ℕ)) : Type 0 where
  pub more : List (List ℕ)
  pub used : ℕ
  pub reply : ℕ
  pub after : S
  pub told : may s t (ss ++ more) used reply after
  pub one : S
  pub other : S
  pub one_is : One one s after
  pub other_is : One other s after
  pub left : Off xs ys one other true

pub record Said {S : Type 0} (may : Rule S) (Up : Idle S) (s : S) (t : List ℕ) (g : Ran) : Type 0 where
  pub after : S
  pub told : may s t g.showed g.pages_used g.end after
  pub here : IdleWorld Up g.here after

-- the number is how many more items there may be
pub record SafeOwed {S : Type 0} (may : Rule S) (e : Engine) (Up : ℕ → Idle S) (Off : ℕ → Sides S) : Type 0 where
  pub wake : (i : ℕ) (xs ys : List Page) (a b : S) (both : Bool) → Off (suc i) xs ys a b both →
      Safe e (Waking (Off i) a b both) (Woke (Up i) a b) e.start xs ys (on (length xs)) [] 0
  pub say : (i : ℕ) (m : List ℕ) (xs ys : List Page) (s : S) → Up (suc i) m xs ys s → (t : List ℕ) →
      Safe e (Saying may (Off i) s t) (Said may (Up i) s t) m xs ys (said t) [] 0
  pub quiet : (i : ℕ) (m : List ℕ) (xs ys : List Page) (s : S) → Up i m xs ys s → Off i xs ys s s true
  pub weaken : (i : ℕ) (xs ys : List Page) (s : S) → Off i xs ys s s true → Off i xs ys s s false
  pub lose_0 : (i : ℕ) (xs ys : List Page) (a b : S) → Off (suc i) xs ys a b true → (c : S) × One c a b × Off i (blank (length xs)) ys c c false
  pub lose_1 : (i : ℕ) (xs ys : List Page) (a b : S) → Off (suc i) xs ys a b true → (c : S) × One c a b × Off i xs (blank (length ys)) c c false

pub record OffWorld {S : Type 0} (Off : Sides S) (v : World) (a b : S) (both : Bool) : Type 0 where
  pub calm : v.device.under_way ≡ []
  pub off : Off v.device.first v.device.second a b both

calm_two : (d : Device) → d.under_way ≡ [] → d ≡ two d.first d.second
calm_two d p = λ i. record { first = d.first; second = d.second; under_way = p i }

pick_calm : (b : Bool) (d₁ d₂ : Device) → d₁.under_way ≡ [] → d₂.under_way ≡ [] → (pick b d₁ d₂).under_way ≡ []
pick_calm true d₁ d₂ h₁ h₂ = h₁
pick_calm false d₁ d₂ h₁ h₂ = h₂

left_calm : (d : Device) (ws : List Write) (c : ℕ) → (left d ws c).under_way ≡ []
unfolding left
left_calm d [] c = refl
left_calm d (w ∷ ws) c =
    pick_calm (eqb c 1) _ _ (pick_calm (eqb w.side 0) _ _ refl refl)
    (pick_calm (eqb c 2) _ _ (pick_calm (eqb w.side 0) _ _ refl refl) refl)

stopped_two : (d : Device) (c : ℕ) → d.under_way ≡ [] → stopped d c ≡ two d.first d.second
unfolding left
stopped_two d c p = ap (λ ws. left d ws c) p

module _ {S : Type 0} (may : Rule S) (e : Engine) (Up : ℕ → Idle S) (Off : ℕ → Sides S) (o : SafeOwed may e Up Off) where
  all_along : (K : Crash) (Q : Ran → Type 0) (m : List ℕ) (xs ys : List Page) (ev : Event) (ss : List (List ℕ)) (r : ℕ) → Safe e K Q m xs ys ev ss r →
      (n : ℕ) → Stand K Q (runs n e (on_device m (two xs ys)) ev ss r)
  all_along K Q m xs ys ev ss r h zero = stop_stand e K Q m xs ys ev ss r h.now
  all_along K Q m xs ys ev ss r h (suc n) = h.along n

  idle_off : (i : ℕ) (v : World) (s : S) (c : ℕ) → IdleWorld (Up i) v s → OffWorld (Off i) (dark v c) s s true
  idle_off i v s c h =
      record {
        calm = left_calm v.device v.device.under_way c;
        off = rw (stopped_two v.device c h.calm) (o.quiet i v.memory _ _ s h.up);
      }

  idle_off_so : (i : ℕ) (v : World) (s : S) (c : ℕ) (both : Bool) → IdleWorld (Up i) v s → OffWorld (Off i) (dark v c) s s both
  idle_off_so i v s c true h = idle_off i v s c h
  idle_off_so i v s c false h = let k = idle_off i v s c h in record { calm = k.calm; off = o.weaken i _ _ s k.off }

  woken_two : (n : ℕ) (v : World) → v.device.under_way ≡ [] →
      runs n e (on_device e.start (two v.device.first v.device.second)) (on (length v.device.first)) [] 0 ≡ woken e n v
  woken_two n v p = ap (λ d. runs n e (on_device e.start d) (on (length v.device.first)) [] 0) (sym (calm_two v.device p))

  ran_two : (n : ℕ) (v : World) (t : List ℕ) → v.device.under_way ≡ [] →
      runs n e (on_device v.memory (two v.device.first v.device.second)) (said t) [] 0 ≡ ran_as e n v t
  ran_two n v t p = ap (λ d. runs n e (on_device v.memory d) (said t) [] 0) (sym (calm_two v.device p))

  off_wakes : (i : ℕ) (v : World) (a b : S) (both : Bool) → OffWorld (Off (suc i)) v a b both →
      (n : ℕ) × (c : S) × One c a b × ((woken e n v).end ≡ 0) × ((woken e n v).showed ≡ []) × IdleWorld (Up i) (woken e n v).here c
  off_wakes i v a b both h =
      let s = o.wake i _ _ a b both h.off in
      let w = subst (Woke (Up i) a b) (woken_two (suc s.steps) v h.calm) s.finish in
      (suc s.steps, w.now, w.now_is, w.well, w.silent, w.here)

  off_waking : (i : ℕ) (v : World) (a b : S) (both : Bool) → OffWorld (Off (suc i)) v a b both → (n c : ℕ) →
      (((woken e n v).end ≡ 0) ⊎ ((woken e n v).end ≡ 1000)) × ((woken e n v).showed ≡ [])
      × (a₁ : S) × (b₁ : S) × One a₁ a b × One b₁ a b × OffWorld (Off i) (dark (woken e n v).here c) a₁ b₁ both
  off_waking i v a b both h n c =
      elim (subst (Stand (Waking (Off i) a b both) (Woke (Up i) a b)) (woken_two n v h.calm) (all_along _ _ _ _ _ _ _ _ (o.wake i _ _ a b both h.off) n)) [
        | inl w ↦ (inl w.well, w.silent, w.now, w.now, w.now_is, w.now_is, idle_off_so i _ w.now c both w.here)
        | inr k ↦ let x = k.1 c in
            (inr k.0, x.silent, x.one, x.other, x.one_is, x.other_is, record { calm = left_calm _ _ c; off = x.left })
      ]

  off_losing : (i : ℕ) (v : World) (a b : S) → OffWorld (Off (suc i)) v a b true → (k : ℕ) → k < 2 → (c : S) × One c a b × OffWorld (Off i) (without v k) c c false
  off_losing i v a b h zero l = let x = o.lose_0 i _ _ a b h.off in (x.0, x.1, record { calm = refl; off = x.2 })
  off_losing i v a b h (suc zero) l = let x = o.lose_1 i _ _ a b h.off in (x.0, x.1, record { calm = refl; off = x.2 })
  off_losing i v a b h (suc (suc k)) l = let no : ⊥ = omega arith in absurd no

  up_answers : (i : ℕ) (v : World) (s : S) → IdleWorld (Up (suc i)) v s → (t : List ℕ) →
      (n : ℕ) × (s₁ : S) × may s t (ran_as e n v t).showed (ran_as e n v t).pages_used (ran_as e n v t).end s₁ × IdleWorld (Up i) (ran_as e n v t).here s₁
  up_answers i v s h t =
      let q = o.say i _ _ _ s h.up t in
      let w = subst (Said may (Up i) s t) (ran_two (suc q.steps) v t h.calm) q.finish in
      (suc q.steps, w.after, w.told, w.here)

  up_answering : (i : ℕ) (v : World) (s : S) → IdleWorld (Up (suc i)) v s → (t : List ℕ) (n c : ℕ) →
      Ended may (OffWorld (Off i)) s t (ran_as e n v t) c ⊎ Midway may (OffWorld (Off i)) s t (ran_as e n v t) c
  up_answering i v s h t n c =
      elim (subst (Stand (Saying may (Off i) s t) (Said may (Up i) s t)) (ran_two n v t h.calm) (all_along _ _ _ _ _ _ _ _ (o.say i _ _ _ s h.up t) n)) [
        | inl w ↦ inl (record { after = w.after; told = w.told; left = idle_off i _ w.after c w.here })
        | inr k ↦ let x = k.1 c in
            inr (record {
              running = k.0;
              more = x.more;
              used = x.used;
              reply = x.reply;
              after = x.after;
              told = x.told;
              one = x.one;
              other = x.other;
              one_is = x.one_is;
              other_is = x.other_is;
              left = record { calm = left_calm _ _ c; off = x.left };
            })
      ]

  pub owed : Owed may e (λ i. IdleWorld (Up i)) (λ i. OffWorld (Off i))
  owed = record { wakes = off_wakes; waking = off_waking; losing = off_losing; answers = up_answers; answering = up_answering }

  -- from two sides without power, all items
  pub all_right : (xs ys : List Page) (a b : S) (is : List Item) → Off (length is) xs ys a b true → proper_so false true is ≡ true →
      (s : S) × One s a b × Right may (λ x. x) e (record { device = two xs ys; memory = [] }) s is
  unfolding OffRight
  all_right xs ys a b is h p = (items_right may e (λ i. IdleWorld (Up i)) (λ i. OffWorld (Off i)) owed is).1 _ a b true (record { calm = refl; off = h }) p

  pub all_right_one : (xs ys : List Page) (s : S) (is : List Item) → Off (length is) xs ys s s true → proper_so false true is ≡ true →
      Right may (λ x. x) e (record { device = two xs ys; memory = [] }) s is
  all_right_one xs ys s is h p =
      let r = all_right xs ys s s is h p in
      subst (λ x. Right may (λ y. y) e (record { device = two xs ys; memory = [] }) x is) (elim r.1 [ inl q ↦ q | inr q ↦ q ]) r.2

-- The same where a fact about the plain house alone, that may grow with each item, is kept beside: only a command has to use it
pub record PlainOwed {S : Type 0} (may : Rule S) (e : Engine) (Up : Idle S) (Off : Sides S) (Inv : ℕ → S → Type 0) : Type 0 where
  pub wake : (xs ys : List Page) (a b : S) (both : Bool) → Off xs ys a b both →
      Safe e (Waking Off a b both) (Woke Up a b) e.start xs ys (on (length xs)) [] 0
  pub say : (i : ℕ) (m : List ℕ) (xs ys : List Page) (s : S) → Inv (suc i) s → Up m xs ys s → (t : List ℕ) →
      Safe e (Saying may Off s t) (Said may Up s t) m xs ys (said t) [] 0
  pub quiet : (m : List ℕ) (xs ys : List Page) (s : S) → Up m xs ys s → Off xs ys s s true
  pub weaken : (xs ys : List Page) (s : S) → Off xs ys s s true → Off xs ys s s false
  pub lose_0 : (xs ys : List Page) (a b : S) → Off xs ys a b true → (c : S) × One c a b × Off (blank (length xs)) ys c c false
  pub lose_1 : (xs ys : List Page) (a b : S) → Off xs ys a b true → (c : S) × One c a b × Off xs (blank (length ys)) c c false
  pub ages : (i : ℕ) (s : S) → Inv (suc i) s → Inv i s
  pub keeps : (i : ℕ) (s : S) (t : List ℕ) (ss : List (List ℕ)) (r reply : ℕ) (s₁ : S) → Inv (suc i) s → may s t ss r reply s₁ → Inv i s₁

module _ {S : Type 0} (may : Rule S) (e : Engine) (Up : Idle S) (Off : Sides S) (Inv : ℕ → S → Type 0) (o : PlainOwed may e Up Off Inv) where
  UpWith : ℕ → Idle S
  UpWith i m xs ys s = Up m xs ys s × Inv i s

  OffWith : ℕ → Sides S
  OffWith i xs ys a b both = Off xs ys a b both × Inv i a × Inv i b

  inv_one : (i : ℕ) (c a b : S) → One c a b → Inv i a → Inv i b → Inv i c
  inv_one i c a b (inl p) ha hb = rw p ha
  inv_one i c a b (inr p) ha hb = rw p hb

  idle_with : (i : ℕ) (v : World) (s : S) → IdleWorld Up v s → Inv i s → IdleWorld (UpWith i) v s
  unfolding UpWith
  idle_with i v s h k = record { calm = h.calm; up = (h.up, k) }

  wake_with : (i : ℕ) (xs ys : List Page) (a b : S) (both : Bool) → OffWith (suc i) xs ys a b both →
      Safe e (Waking (OffWith i) a b both) (Woke (UpWith i) a b) e.start xs ys (on (length xs)) [] 0
  unfolding OffWith
  wake_with i xs ys a b both h =
      let ha = o.ages i a h.1 in
      let hb = o.ages i b h.2 in
      weaker e _ _ _ _
      (λ xs₁ ys₁ ss k. record {
        silent = k.silent;
        one = k.one;
        other = k.other;
        one_is = k.one_is;
        other_is = k.other_is;
        left = (k.left, inv_one i _ a b k.one_is ha hb, inv_one i _ a b k.other_is ha hb);
      })
      (λ g w. record { well = w.well; silent = w.silent; now = w.now; now_is = w.now_is; here = idle_with i _ _ w.here (inv_one i _ a b w.now_is ha hb) })
      _ xs ys _ [] 0 (o.wake xs ys a b both h.0)

  say_with : (i : ℕ) (m : List ℕ) (xs ys : List Page) (s : S) → UpWith (suc i) m xs ys s → (t : List ℕ) →
      Safe e (Saying may (OffWith i) s t) (Said may (UpWith i) s t) m xs ys (said t) [] 0
  unfolding OffWith UpWith
  say_with i m xs ys s u t =
      let hs = o.ages i s u.1 in
      weaker e _ _ _ _
      (λ xs₁ ys₁ ss k.
      let ha = o.keeps i s t _ _ _ k.after u.1 k.told in
      record {
        more = k.more;
        used = k.used;
        reply = k.reply;
        after = k.after;
        told = k.told;
        one = k.one;
        other = k.other;
        one_is = k.one_is;
        other_is = k.other_is;
        left = (k.left, inv_one i _ s k.after k.one_is hs ha, inv_one i _ s k.after k.other_is hs ha);
      })
      (λ g w. record { after = w.after; told = w.told; here = idle_with i _ _ w.here (o.keeps i s t _ _ _ w.after u.1 w.told) })
      m xs ys (said t) [] 0 (o.say i m xs ys s u.1 u.0 t)

  owed_with : SafeOwed may e UpWith OffWith
  unfolding OffWith UpWith
  owed_with =
      record {
        wake = wake_with;
        say = say_with;
        quiet = λ i m xs ys s u. (o.quiet m xs ys s u.0, u.1, u.1);
        weaken = λ i xs ys s h. (o.weaken xs ys s h.0, h.1, h.2);
        lose_0 = λ i xs ys a b h. let x = o.lose_0 xs ys a b h.0 in
            let k = inv_one i _ a b x.1 (o.ages i a h.1) (o.ages i b h.2) in (x.0, x.1, (x.2, k, k));
        lose_1 = λ i xs ys a b h. let x = o.lose_1 xs ys a b h.0 in
            let k = inv_one i _ a b x.1 (o.ages i a h.1) (o.ages i b h.2) in (x.0, x.1, (x.2, k, k));
      }

  pub all_right_with : (xs ys : List Page) (s : S) (is : List Item) → Off xs ys s s true → Inv (length is) s → proper_so false true is ≡ true →
      Right may (λ x. x) e (record { device = two xs ys; memory = [] }) s is
  unfolding OffWith
  all_right_with xs ys s is h k p = all_right_one may e UpWith OffWith owed_with xs ys s is (h, k, k) p

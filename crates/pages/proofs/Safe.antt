-- A logic of runs: from a memory, two sides with nothing under way and an event, the run ends as Q says, and at each stop on the way both sides are as K says.
use Rattle.std.proofs.Common.{◌≡◌, ℕ, zero, suc, ◌<◌, Bool, true, false, not, eqb, ◌⊎◌, List, [], ◌∷◌, ◌++◌, length, sym, refl, ap, ◌∙◌, subst, inl, inr}
use Rattle.std.proofs.lemmas.Bool.{lt-ltb}
use Rattle.pages.specs.Lists.{bit, pick}
use Rattle.pages.specs.Device.{Device, Page, two, set_page, page_at, landed_all, left, stopped, half, a_page}
use Rattle.pages.specs.Run.{Engine, Event, page, next, Act, read, write, shows, done, refused, Step, Ran, on_device, ran, refusal_end, one_act, runs}
use Rattle.pages.proofs.Pages.{length_set_page}

abbrev pub Crash : Type 1
Crash = List Page → List Page → List (List ℕ) → Type 0

-- how a run stands after some acts
abbrev pub Stand : Crash → (Ran → Type 0) → Ran → Type 0
Stand K Q g = Q g ⊎ ((g.end ≡ 1000) × ((c : ℕ) → K (stopped g.here.device c).first (stopped g.here.device c).second g.showed))

pub record Safe (e : Engine) (K : Crash) (Q : Ran → Type 0) (m : List ℕ) (xs ys : List Page) (ev : Event) (ss : List (List ℕ)) (r : ℕ) : Type 0 where
  pub now : K xs ys ss
  pub steps : ℕ
  pub finish : Q (runs (suc steps) e (on_device m (two xs ys)) ev ss r)
  pub along : (n : ℕ) → Stand K Q (runs (suc n) e (on_device m (two xs ys)) ev ss r)

abbrev pub busy : List Page → List Page → ℕ → ℕ → Page → Device
busy xs ys s k p = record { first = xs; second = ys; under_way = record { side = s; at = k; page = p } ∷ [] }

module _ (e : Engine) (K : Crash) (Q : Ran → Type 0) where
  pub stop_stand : (m : List ℕ) (xs ys : List Page) (ev : Event) (ss : List (List ℕ)) (r : ℕ) → K xs ys ss → Stand K Q (runs zero e (on_device m (two xs ys)) ev ss r)
  unfolding runs left
  stop_stand m xs ys ev ss r h = inr (refl, λ c. h)

  -- one act after which nothing is under way
  go_on : (m m₁ : List ℕ) (xs ys : List Page) (ev ev₁ : Event) (ss ss₁ : List (List ℕ)) (r r₁ : ℕ) → K xs ys ss →
      ((n : ℕ) → runs (suc n) e (on_device m (two xs ys)) ev ss r ≡ runs n e (on_device m₁ (two xs ys)) ev₁ ss₁ r₁) →
      Safe e K Q m₁ xs ys ev₁ ss₁ r₁ → Safe e K Q m xs ys ev ss r
  go_on m m₁ xs ys ev ev₁ ss ss₁ r r₁ h eq s =
      record {
        now = h;
        steps = suc s.steps;
        finish = subst Q (sym (eq (suc s.steps))) s.finish;
        along = elim [ zero ↦ subst (Stand K Q) (sym (eq zero)) (stop_stand m₁ xs ys ev₁ ss₁ r₁ s.now) | suc n ↦ subst (Stand K Q) (sym (eq (suc n))) (s.along n) ];
      }

  step_to : (n : ℕ) (m m₁ : List ℕ) (d : Device) (ev : Event) (ss : List (List ℕ)) (r : ℕ) (a : Act) → e.step m ev ≡ record { memory = m₁; act = a } →
      runs (suc n) e (on_device m d) ev ss r ≡ one_act (λ w₁ ev₁ ss₁ r₁. runs n e w₁ ev₁ ss₁ r₁) (on_device m d) ss r m₁ a
  unfolding runs
  step_to n m m₁ d ev ss r a p =
      ap (λ (st : Step). one_act (λ w₁ ev₁ ss₁ r₁. runs n e w₁ ev₁ ss₁ r₁) (on_device m d) ss r st.memory st.act) p

  pub reads_0 : (m m₁ : List ℕ) (xs ys : List Page) (ev : Event) (ss : List (List ℕ)) (r k : ℕ) →
      e.step m ev ≡ record { memory = m₁; act = read 0 k } →
      Safe e K Q m₁ xs ys (page (page_at xs k)) ss (suc r) → Safe e K Q m xs ys ev ss r
  unfolding one_act landed_all
  reads_0 m m₁ xs ys ev ss r k p s = go_on m m₁ xs ys ev _ ss ss r (suc r) s.now (λ n. step_to n m m₁ (two xs ys) ev ss r (read 0 k) p) s

  pub reads_1 : (m m₁ : List ℕ) (xs ys : List Page) (ev : Event) (ss : List (List ℕ)) (r k : ℕ) →
      e.step m ev ≡ record { memory = m₁; act = read 1 k } →
      Safe e K Q m₁ xs ys (page (page_at ys k)) ss (suc r) → Safe e K Q m xs ys ev ss r
  unfolding one_act landed_all
  reads_1 m m₁ xs ys ev ss r k p s = go_on m m₁ xs ys ev _ ss ss r (suc r) s.now (λ n. step_to n m m₁ (two xs ys) ev ss r (read 1 k) p) s

  pub says : (m m₁ : List ℕ) (xs ys : List Page) (ev : Event) (ss : List (List ℕ)) (r : ℕ) (row : List ℕ) →
      e.step m ev ≡ record { memory = m₁; act = shows row } → K xs ys ss →
      Safe e K Q m₁ xs ys next (ss ++ row ∷ []) r → Safe e K Q m xs ys ev ss r
  unfolding one_act landed_all
  says m m₁ xs ys ev ss r row p h s = go_on m m₁ xs ys ev _ ss (ss ++ row ∷ []) r r h (λ n. step_to n m m₁ (two xs ys) ev ss r (shows row) p) s

  ends : (m : List ℕ) (xs ys : List Page) (ev : Event) (ss : List (List ℕ)) (r : ℕ) (g : Ran) → K xs ys ss →
      ((n : ℕ) → runs (suc n) e (on_device m (two xs ys)) ev ss r ≡ g) → Q g → Safe e K Q m xs ys ev ss r
  ends m xs ys ev ss r g h eq q =
      record { now = h; steps = zero; finish = subst Q (sym (eq zero)) q; along = λ n. inl (subst Q (sym (eq n)) q) }

  pub finishes : (m m₁ : List ℕ) (xs ys : List Page) (ev : Event) (ss : List (List ℕ)) (r : ℕ) →
      e.step m ev ≡ record { memory = m₁; act = done } → K xs ys ss → Q (ran (on_device m₁ (two xs ys)) ss r 0) → Safe e K Q m xs ys ev ss r
  unfolding one_act landed_all
  finishes m m₁ xs ys ev ss r p h q = ends m xs ys ev ss r _ h (λ n. step_to n m m₁ (two xs ys) ev ss r done p) q

  pub refuses : (m m₁ : List ℕ) (xs ys : List Page) (ev : Event) (ss : List (List ℕ)) (r k : ℕ) →
      e.step m ev ≡ record { memory = m₁; act = refused k } → K xs ys ss → Q (ran (on_device m₁ (two xs ys)) ss r (refusal_end k)) → Safe e K Q m xs ys ev ss r
  unfolding one_act landed_all
  refuses m m₁ xs ys ev ss r k p h q = ends m xs ys ev ss r _ h (λ n. step_to n m m₁ (two xs ys) ev ss r (refused k) p) q

  -- a write under way, and the same landed
  same_act_0 : (n : ℕ) (m m₁ : List ℕ) (xs ys : List Page) (k : ℕ) (p : Page) (ss : List (List ℕ)) (r : ℕ) (a : Act) →
      one_act (λ w₁ ev₁ ss₁ r₁. runs n e w₁ ev₁ ss₁ r₁) (on_device m (busy xs ys 0 k p)) ss r m₁ a
      ≡ one_act (λ w₁ ev₁ ss₁ r₁. runs n e w₁ ev₁ ss₁ r₁) (on_device m (two (set_page xs k p) ys)) ss r m₁ a
  unfolding one_act landed_all
  same_act_0 n m m₁ xs ys k p ss r (read s j) = refl
  same_act_0 n m m₁ xs ys k p ss r (write s j q) = rw (length_set_page xs k p)
  same_act_0 n m m₁ xs ys k p ss r (shows row) = refl
  same_act_0 n m m₁ xs ys k p ss r done = refl
  same_act_0 n m m₁ xs ys k p ss r (refused j) = refl

  same_act_1 : (n : ℕ) (m m₁ : List ℕ) (xs ys : List Page) (k : ℕ) (p : Page) (ss : List (List ℕ)) (r : ℕ) (a : Act) →
      one_act (λ w₁ ev₁ ss₁ r₁. runs n e w₁ ev₁ ss₁ r₁) (on_device m (busy xs ys 1 k p)) ss r m₁ a
      ≡ one_act (λ w₁ ev₁ ss₁ r₁. runs n e w₁ ev₁ ss₁ r₁) (on_device m (two xs (set_page ys k p))) ss r m₁ a
  unfolding one_act landed_all
  same_act_1 n m m₁ xs ys k p ss r (read s j) = refl
  same_act_1 n m m₁ xs ys k p ss r (write s j q) = refl
  same_act_1 n m m₁ xs ys k p ss r (shows row) = refl
  same_act_1 n m m₁ xs ys k p ss r done = refl
  same_act_1 n m m₁ xs ys k p ss r (refused j) = refl

  same_runs_0 : (n : ℕ) (m : List ℕ) (xs ys : List Page) (k : ℕ) (p : Page) (ev : Event) (ss : List (List ℕ)) (r : ℕ) →
      runs (suc n) e (on_device m (busy xs ys 0 k p)) ev ss r ≡ runs (suc n) e (on_device m (two (set_page xs k p) ys)) ev ss r
  unfolding runs
  same_runs_0 n m xs ys k p ev ss r = same_act_0 n m (e.step m ev).memory xs ys k p ss r (e.step m ev).act

  same_runs_1 : (n : ℕ) (m : List ℕ) (xs ys : List Page) (k : ℕ) (p : Page) (ev : Event) (ss : List (List ℕ)) (r : ℕ) →
      runs (suc n) e (on_device m (busy xs ys 1 k p)) ev ss r ≡ runs (suc n) e (on_device m (two xs (set_page ys k p))) ev ss r
  unfolding runs
  same_runs_1 n m xs ys k p ev ss r = same_act_1 n m (e.step m ev).memory xs ys k p ss r (e.step m ev).act

  -- what a stop leaves of a write
  pick_crash : (b c : Bool) (ss : List (List ℕ)) (d₁ d₂ d₃ : Device) → K d₁.first d₁.second ss → K d₂.first d₂.second ss → K d₃.first d₃.second ss →
      K (pick b d₁ (pick c d₂ d₃)).first (pick b d₁ (pick c d₂ d₃)).second ss
  pick_crash true c ss d₁ d₂ d₃ h₁ h₂ h₃ = h₁
  pick_crash false true ss d₁ d₂ d₃ h₁ h₂ h₃ = h₂
  pick_crash false false ss d₁ d₂ d₃ h₁ h₂ h₃ = h₃

  busy_stand_0 : (m : List ℕ) (xs ys : List Page) (k : ℕ) (p : Page) (ev : Event) (ss : List (List ℕ)) (r : ℕ) →
      K (set_page xs k p) ys ss → K (set_page xs k (half p (page_at xs k))) ys ss → K xs ys ss →
      Stand K Q (runs zero e (on_device m (busy xs ys 0 k p)) ev ss r)
  unfolding runs left
  busy_stand_0 m xs ys k p ev ss r h₁ h₂ h₃ = inr (refl, λ c. pick_crash (eqb c 1) (eqb c 2) ss (two (set_page xs k p) ys) (two (set_page xs k (half p (page_at xs k))) ys) (two xs ys) h₁ h₂ h₃)

  busy_stand_1 : (m : List ℕ) (xs ys : List Page) (k : ℕ) (p : Page) (ev : Event) (ss : List (List ℕ)) (r : ℕ) →
      K xs (set_page ys k p) ss → K xs (set_page ys k (half p (page_at ys k))) ss → K xs ys ss →
      Stand K Q (runs zero e (on_device m (busy xs ys 1 k p)) ev ss r)
  unfolding runs left
  busy_stand_1 m xs ys k p ev ss r h₁ h₂ h₃ = inr (refl, λ c. pick_crash (eqb c 1) (eqb c 2) ss (two xs (set_page ys k p)) (two xs (set_page ys k (half p (page_at ys k)))) (two xs ys) h₁ h₂ h₃)

  write_eq_0 : (n : ℕ) (m m₁ : List ℕ) (xs ys : List Page) (ev : Event) (ss : List (List ℕ)) (r k : ℕ) (p : Page) →
      e.step m ev ≡ record { memory = m₁; act = write 0 k p } → k < length xs → a_page p ≡ true →
      runs (suc n) e (on_device m (two xs ys)) ev ss r ≡ runs n e (on_device m₁ (busy xs ys 0 k p)) next ss (suc r)
  unfolding one_act landed_all
  write_eq_0 n m m₁ xs ys ev ss r k p q h ok = step_to n m m₁ (two xs ys) ev ss r (write 0 k p) q ∙ simp (lt-ltb k (length xs) h, ok)

  write_eq_1 : (n : ℕ) (m m₁ : List ℕ) (xs ys : List Page) (ev : Event) (ss : List (List ℕ)) (r k : ℕ) (p : Page) →
      e.step m ev ≡ record { memory = m₁; act = write 1 k p } → k < length xs → a_page p ≡ true →
      runs (suc n) e (on_device m (two xs ys)) ev ss r ≡ runs n e (on_device m₁ (busy xs ys 1 k p)) next ss (suc r)
  unfolding one_act landed_all
  write_eq_1 n m m₁ xs ys ev ss r k p q h ok = step_to n m m₁ (two xs ys) ev ss r (write 1 k p) q ∙ simp (lt-ltb k (length xs) h, ok)

  pub writes_0 : (m m₁ : List ℕ) (xs ys : List Page) (ev : Event) (ss : List (List ℕ)) (r k : ℕ) (p : Page) →
      e.step m ev ≡ record { memory = m₁; act = write 0 k p } → k < length xs → a_page p ≡ true →
      K xs ys ss → K (set_page xs k (half p (page_at xs k))) ys ss →
      Safe e K Q m₁ (set_page xs k p) ys next ss (suc r) → Safe e K Q m xs ys ev ss r
  writes_0 m m₁ xs ys ev ss r k p q lt ok h t s =
      let eq : (n : ℕ) → runs (suc (suc n)) e (on_device m (two xs ys)) ev ss r ≡ runs (suc n) e (on_device m₁ (two (set_page xs k p) ys)) next ss (suc r)
      = λ n. write_eq_0 (suc n) m m₁ xs ys ev ss r k p q lt ok ∙ same_runs_0 n m₁ xs ys k p next ss (suc r) in
      record {
        now = h;
        steps = suc s.steps;
        finish = subst Q (sym (eq s.steps)) s.finish;
        along = elim [ zero ↦ subst (Stand K Q) (sym (write_eq_0 zero m m₁ xs ys ev ss r k p q lt ok)) (busy_stand_0 m₁ xs ys k p next ss (suc r) s.now t h) | suc n ↦ subst (Stand K Q) (sym (eq n)) (s.along n) ];
      }

  pub writes_1 : (m m₁ : List ℕ) (xs ys : List Page) (ev : Event) (ss : List (List ℕ)) (r k : ℕ) (p : Page) →
      e.step m ev ≡ record { memory = m₁; act = write 1 k p } → k < length xs → a_page p ≡ true →
      K xs ys ss → K xs (set_page ys k (half p (page_at ys k))) ss →
      Safe e K Q m₁ xs (set_page ys k p) next ss (suc r) → Safe e K Q m xs ys ev ss r
  writes_1 m m₁ xs ys ev ss r k p q lt ok h t s =
      let eq : (n : ℕ) → runs (suc (suc n)) e (on_device m (two xs ys)) ev ss r ≡ runs (suc n) e (on_device m₁ (two xs (set_page ys k p))) next ss (suc r)
      = λ n. write_eq_1 (suc n) m m₁ xs ys ev ss r k p q lt ok ∙ same_runs_1 n m₁ xs ys k p next ss (suc r) in
      record {
        now = h;
        steps = suc s.steps;
        finish = subst Q (sym (eq s.steps)) s.finish;
        along = elim [ zero ↦ subst (Stand K Q) (sym (write_eq_1 zero m m₁ xs ys ev ss r k p q lt ok)) (busy_stand_1 m₁ xs ys k p next ss (suc r) s.now t h) | suc n ↦ subst (Stand K Q) (sym (eq n)) (s.along n) ];
      }

  -- the same by a side that is ahead, and the other
  pub reads_src : (d : Bool) (m m₁ : List ℕ) (src dst : List Page) (ev : Event) (ss : List (List ℕ)) (r k : ℕ) →
      e.step m ev ≡ record { memory = m₁; act = read (bit d) k } →
      Safe e K Q m₁ (pick d dst src) (pick d src dst) (page (page_at src k)) ss (suc r) → Safe e K Q m (pick d dst src) (pick d src dst) ev ss r
  reads_src true m m₁ src dst ev ss r k p s = reads_1 m m₁ dst src ev ss r k p s
  reads_src false m m₁ src dst ev ss r k p s = reads_0 m m₁ src dst ev ss r k p s

  pub writes_src : (d : Bool) (m m₁ : List ℕ) (src dst : List Page) (ev : Event) (ss : List (List ℕ)) (r k : ℕ) (p : Page) →
      e.step m ev ≡ record { memory = m₁; act = write (bit d) k p } → k < length src → k < length dst → a_page p ≡ true →
      K (pick d dst src) (pick d src dst) ss →
      K (pick d dst (set_page src k (half p (page_at src k)))) (pick d (set_page src k (half p (page_at src k))) dst) ss →
      Safe e K Q m₁ (pick d dst (set_page src k p)) (pick d (set_page src k p) dst) next ss (suc r) → Safe e K Q m (pick d dst src) (pick d src dst) ev ss r
  writes_src true m m₁ src dst ev ss r k p q l₁ l₂ ok h t s = writes_1 m m₁ dst src ev ss r k p q l₂ ok h t s
  writes_src false m m₁ src dst ev ss r k p q l₁ l₂ ok h t s = writes_0 m m₁ src dst ev ss r k p q l₁ ok h t s

  pub writes_dst : (d : Bool) (m m₁ : List ℕ) (src dst : List Page) (ev : Event) (ss : List (List ℕ)) (r k : ℕ) (p : Page) →
      e.step m ev ≡ record { memory = m₁; act = write (bit (not d)) k p } → k < length src → k < length dst → a_page p ≡ true →
      K (pick d dst src) (pick d src dst) ss →
      K (pick d (set_page dst k (half p (page_at dst k))) src) (pick d src (set_page dst k (half p (page_at dst k)))) ss →
      Safe e K Q m₁ (pick d (set_page dst k p) src) (pick d src (set_page dst k p)) next ss (suc r) → Safe e K Q m (pick d dst src) (pick d src dst) ev ss r
  writes_dst true m m₁ src dst ev ss r k p q l₁ l₂ ok h t s = writes_0 m m₁ dst src ev ss r k p q l₂ ok h t s
  writes_dst false m m₁ src dst ev ss r k p q l₁ l₂ ok h t s = writes_1 m m₁ src dst ev ss r k p q l₁ ok h t s

  pub turned : (d : Bool) (m : List ℕ) (xs ys : List Page) (ev : Event) (ss : List (List ℕ)) (r : ℕ) →
      Safe e K Q m (pick d (pick d xs ys) (pick d ys xs)) (pick d (pick d ys xs) (pick d xs ys)) ev ss r → Safe e K Q m xs ys ev ss r
  turned true m xs ys ev ss r s = s
  turned false m xs ys ev ss r s = s

-- a weaker end and weaker stops
pub weaker : (e : Engine) (K K₁ : Crash) (Q Q₁ : Ran → Type 0) → ((xs ys : List Page) (ss : List (List ℕ)) → K xs ys ss → K₁ xs ys ss) → ((g : Ran) → Q g → Q₁ g) →
    (m : List ℕ) (xs ys : List Page) (ev : Event) (ss : List (List ℕ)) (r : ℕ) → Safe e K Q m xs ys ev ss r → Safe e K₁ Q₁ m xs ys ev ss r
weaker e K K₁ Q Q₁ f g m xs ys ev ss r s =
    record {
      now = f xs ys ss s.now;
      steps = s.steps;
      finish = g _ s.finish;
      along = λ n. elim (s.along n) [ inl q ↦ inl (g _ q) | inr k ↦ inr (k.0, λ c. f _ _ _ (k.1 c)) ];
    }

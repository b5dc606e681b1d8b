-- The main promise, while no command is known: the machine reads and writes nothing, and answers 1 or 2.
use Rattle.std.proofs.Common.{◌≡◌, ℕ, zero, suc, ◌<◌, ◌≤◌, Bool, true, false, cond, ◌&&◌, eqb, ltb, List, [], ◌∷◌, length, set, replicate, Some, None, Option, sym, refl, ap, ◌∙◌, subst, inl, inr, arith, length-set, get_or-set_same}
use Rattle.std.proofs.lemmas.Bool.{lt-ltb, le-leb, leb-true, eq-eqb, and_from, and_parts, false≢true}
use Rattle.pages.specs.Lists.{pick, every}
use Rattle.pages.specs.Device.{Page, two, blank, left, landed_all}
use Rattle.pages.specs.Run.{World, Event, on, said, page, next, Act, done, refused, Step, Ran, ran, on_device, runs, one_act, Item, dark, power, power_stops, whole, stops, loses, proper_so, Right, Steady, all_small}
use Rattle.records.specs.Command.{nothing}
use Rattle.records.specs.House.{Plain}
use Rattle.records.specs.Promise.{May}
use Rattle.records.specs.Reader.{found, meant}
use Rattle.records.specs.Reads.{Reads}
use Rattle.records.specs.declared.command.Command.{Command}
use Rattle.records.proofs.Right.{reads}
use Rattle.engine.specs.Own.{own, start_memory, pages_in, with_pages, a_house, answers, fault, replied, step_of, guarded}
use Rattle.engine.specs.Promise.{Whole}
use Rattle.std.proofs.lemmas.List.{length-replicate}

pub start_length : length start_memory ≡ 262144
unfolding start_memory
start_length = length-replicate {A = ℕ} 262144 0

pub own_start : length own.start ≡ 262144
unfolding own
own_start = start_length

-- a memory of the machine's own length is not left as it is
pub own_step : (m : List ℕ) (ev : Event) → length m ≡ 262144 → own.step m ev ≡ step_of m ev
unfolding own
own_step m ev l = rw (eq-eqb (length m) 262144 l) refl

-- memory keeps its length, and its numbers stay below 2^64
small_set : (m : List ℕ) (n : ℕ) → n < 18446744073709551616 → all_small m ≡ true → all_small (set m 0 n) ≡ true
unfolding all_small
small_set [] n l h = h
small_set (x ∷ xs) n l h = and_from _ _ (lt-ltb n 18446744073709551616 l) (and_parts _ _ h).1

record Kept (m : List ℕ) (s : Step) : Type 0 where
  long : length s.memory ≡ length m
  small : all_small m ≡ true → all_small s.memory ≡ true

kept_same : (m : List ℕ) (a : Act) → Kept m (answers a m)
kept_same m a = record { long = refl; small = λ h. h }

kept_either : (m : List ℕ) (b : Bool) (s t : Step) → (b ≡ true → Kept m s) → Kept m t → Kept m (cond b s t)
kept_either m true s t h k = h refl
kept_either m false s t h k = k

kept_power : (n : ℕ) (m : List ℕ) → a_house n ≡ true → Kept m (answers done (with_pages n m))
unfolding with_pages
kept_power n m h = let l : n ≤ 1048576 = leb-true n 1048576 (and_parts _ _ h).1 in record { long = length-set m 0 n; small = small_set m n (omega arith) }

kept_replied : (o : Option Command) (m : List ℕ) → Kept m (replied o m)
kept_replied None m = kept_same m (refused 1)
kept_replied (Some c) m = kept_same m (refused 2)

kept : (m : List ℕ) (ev : Event) → Kept m (step_of m ev)
kept m (on n) = kept_either m _ _ _ (kept_power n m) (kept_same m _)
kept m (said t) = kept_either m _ _ _ (λ e. kept_replied (found t) m) (kept_same m _)
kept m (page p) = kept_same m _
kept m next = kept_same m _

zeros : (n : ℕ) → every (λ m. eqb m 0) (replicate n 0) ≡ true
zeros zero = refl
zeros (suc n) = zeros n

start_zero : every (λ m. eqb m 0) start_memory ≡ true
unfolding start_memory
start_zero = zeros 262144

steady : Steady own
unfolding Steady own
steady = (
  omega (arith, start_length),
  start_zero,
  λ m ev. let k = kept_either m (eqb (length m) 262144) (step_of m ev) (fault m) (λ e. kept m ev) (kept_same m _) in (k.long, k.small),
)

-- 1 of what is no command, 2 of a command
reply : Option Command → ℕ
reply None = 1
reply (Some c) = 2

replied_is : (o : Option Command) (m : List ℕ) → replied o m ≡ answers (refused (reply o)) m
unfolding reply
replied_is None m = refl
replied_is (Some c) m = refl

may_reply : (pages : ℕ) (w : Plain) (t : List ℕ) (r : ℕ) (o : Option Command) → found t ≡ o → May nothing pages w t [] r (reply o) w
unfolding May reply Reads
may_reply pages w t r None e = inr (inr (reads t None e, refl, refl, refl))
may_reply pages w t r (Some c) e = inr (inl (meant t c, reads t (Some c) e, refl, refl, refl, refl))

length_blank : (n : ℕ) → length (blank n) ≡ n
unfolding blank
length_blank zero = refl
length_blank (suc n) = ap suc (length_blank n)

-- a memory that power has come to, with so many pages
record Awake (pages : ℕ) (m : List ℕ) : Type 0 where
  long : length m ≡ 262144
  has : pages_in m ≡ pages

module _ (pages : ℕ) (low : 256 ≤ pages) (high : pages ≤ 1048576) where
  a_house_of : a_house pages ≡ true
  a_house_of = and_from _ _ (le-leb 256 pages low) (le-leb pages 1048576 high)

  woken_memory : List ℕ
  woken_memory = with_pages pages start_memory

  awake : Awake pages woken_memory
  unfolding woken_memory with_pages pages_in
  awake =
      let l = start_length in
      let h : 0 < length start_memory = omega arith in
      record { long = length-set start_memory 0 pages ∙ start_length; has = get_or-set_same start_memory 0 pages 0 h }

  run_power : (n : ℕ) (xs ys : List Page) → length xs ≡ pages → runs (suc n) own (on_device own.start (two xs ys)) (on (length xs)) [] 0 ≡ ran (on_device woken_memory (two xs ys)) [] 0 0
  unfolding runs one_act landed_all own woken_memory
  run_power n xs ys l =
      let e : guarded start_memory (on (length xs)) ≡ answers done (with_pages pages start_memory) = rw (l, eq-eqb (length start_memory) 262144 start_length, a_house_of) in
      ap (λ (st : Step). one_act (λ w₁ ev₁ ss₁ r₁. runs n own w₁ ev₁ ss₁ r₁) (on_device start_memory (two xs ys)) [] 0 st.memory st.act) e

  refused_ends : (n : ℕ) (m : List ℕ) (xs ys : List Page) (o : Option Command) →
      one_act (λ w₁ ev₁ ss₁ r₁. runs n own w₁ ev₁ ss₁ r₁) (on_device m (two xs ys)) [] 0 m (refused (reply o)) ≡ ran (on_device m (two xs ys)) [] 0 (reply o)
  unfolding one_act landed_all reply
  refused_ends n m xs ys None = refl
  refused_ends n m xs ys (Some c) = refl

  run_command : (n : ℕ) (m : List ℕ) (xs ys : List Page) (t : List ℕ) → Awake pages m → runs (suc n) own (on_device m (two xs ys)) (said t) [] 0 ≡ ran (on_device m (two xs ys)) [] 0 (reply (found t))
  unfolding runs own
  run_command n m xs ys t a =
      let e : guarded m (said t) ≡ answers (refused (reply (found t))) m = rw (eq-eqb (length m) 262144 a.long, a.has, a_house_of) (replied_is (found t) m) in
      ap (λ (st : Step). one_act (λ w₁ ev₁ ss₁ r₁. runs n own w₁ ev₁ ss₁ r₁) (on_device m (two xs ys)) [] 0 st.memory st.act) e ∙ refused_ends n m xs ys (found t)

  abbrev Rightly : World → Plain → List Item → Type 0
  Rightly v w is = Right (May nothing pages) (λ x. x) own v w is

  -- with power and without: nothing is under way, and the first device has its pages
  UpRight : List Item → Type 0
  UpRight is = (m : List ℕ) (xs ys : List Page) (both : Bool) → Awake pages m → length xs ≡ pages → proper_so true both is ≡ true → (w : Plain) → Rightly (on_device m (two xs ys)) w is

  OffRight : List Item → Type 0
  OffRight is = (m : List ℕ) (xs ys : List Page) (both : Bool) → length xs ≡ pages → proper_so false both is ≡ true → (w : Plain) → Rightly (on_device m (two xs ys)) w is

  off_power : (is : List Item) → UpRight is → OffRight (power ∷ is)
  unfolding UpRight OffRight Right proper_so
  off_power is up m xs ys both l p w =
      let e = run_power 0 xs ys l in
      (1, ap (λ (g : Ran). g.end) e, ap (λ (g : Ran). g.showed) e, subst (λ (g : Ran). Rightly g.here w is) (sym e) (up woken_memory xs ys true awake l p w))

  off_power_stops : (n c : ℕ) (is : List Item) → OffRight is → OffRight (power_stops n c ∷ is)
  unfolding OffRight Right proper_so runs left
  off_power_stops zero c is off m xs ys both l p w = (inr refl, refl, off [] xs ys both l p w)
  off_power_stops (suc n) c is off m xs ys both l p w =
      let e = run_power n xs ys l in
      (inl (ap (λ (g : Ran). g.end) e), ap (λ (g : Ran). g.showed) e, subst (λ (g : Ran). Rightly (dark g.here c) w is) (sym e) (off [] xs ys both l p w))

  up_whole : (t : List ℕ) (is : List Item) → UpRight is → UpRight (whole t ∷ is)
  unfolding UpRight Right proper_so
  up_whole t is up m xs ys both a l p w =
      let e = run_command 0 m xs ys t a in
      (1, w, subst (λ (g : Ran). May nothing pages w t g.showed g.pages_used g.end w) (sym e) (may_reply pages w t 0 (found t) refl), subst (λ (g : Ran). Rightly g.here w is) (sym e) (up m xs ys both a l p w))

  up_stops : (t : List ℕ) (n c : ℕ) (is : List Item) → OffRight is → UpRight (stops t n c ∷ is)
  unfolding UpRight OffRight Right proper_so runs left
  up_stops t zero c is off m xs ys both a l p w = (w, inr (refl, [], 0, reply (found t), w, may_reply pages w t 0 (found t) refl, inl refl), off [] xs ys both l p w)
  up_stops t (suc n) c is off m xs ys both a l p w =
      let e = run_command n m xs ys t a in
      (w, inl (subst (λ (g : Ran). May nothing pages w t g.showed g.pages_used g.end w) (sym e) (may_reply pages w t 0 (found t) refl)), subst (λ (g : Ran). Rightly (dark g.here c) w is) (sym e) (off [] xs ys both l p w))

  off_loses : (k : ℕ) (is : List Item) → OffRight is → OffRight (loses k ∷ is)
  unfolding OffRight Right proper_so
  off_loses k is off m xs ys both l p w =
      let q = and_parts (ltb k 2) (proper_so false false is) (and_parts both (ltb k 2 && proper_so false false is) p).1 in
      go (eqb k 0) q.1
    where
      go : (b : Bool) → proper_so false false is ≡ true → Rightly (record { device = pick b (two (blank (length xs)) ys) (two xs (blank (length ys))); memory = [] }) w is
      go true h = off [] (blank (length xs)) ys false (length_blank (length xs) ∙ l) h w
      go false h = off [] xs (blank (length ys)) false l h w

  items : (is : List Item) → UpRight is × OffRight is
  unfolding UpRight OffRight Right proper_so
  items [] = (λ m xs ys both a l p w. refl, λ m xs ys both l p w. refl)
  items (power ∷ is) = (λ m xs ys both a l p w. absurd (false≢true p), off_power is (items is).0)
  items (power_stops n c ∷ is) = (λ m xs ys both a l p w. absurd (false≢true p), off_power_stops n c is (items is).1)
  items (whole t ∷ is) = (up_whole t is (items is).0, λ m xs ys both l p w. absurd (false≢true p))
  items (stops t n c ∷ is) = (up_stops t n c is (items is).1, λ m xs ys both l p w. absurd (false≢true p))
  items (loses k ∷ is) = (λ m xs ys both a l p w. absurd (false≢true p), off_loses k is (items is).1)

  all_right : (is : List Item) → proper_so false true is ≡ true → (w : Plain) → Rightly (on_device [] (two (blank pages) (blank pages))) w is
  unfolding OffRight
  all_right is p w = (items is).1 [] (blank pages) (blank pages) true (length_blank pages) p w

pub whole_nothing : Whole nothing own
unfolding Whole
whole_nothing = (steady, λ pages is low high few p. all_right pages low high is p _)

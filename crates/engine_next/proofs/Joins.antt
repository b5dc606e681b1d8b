-- A person joins: the machine's run of that command, from the first read to the number shown.
use Rattle.std.proofs.Common.{◌≡◌, ℕ, zero, suc, ◌+◌, ◌-◌, ◌*◌, ◌/◌, ◌%◌, ◌<◌, ◌≤◌, Bool, true, false, cond, ◌&&◌, leb, List, [], ◌∷◌, ◌++◌, length, take, drop, Some, sym, refl, ap, ◌∙◌, subst, ap₂, add-one, arith, length-drop, length-take}
use Rattle.std.proofs.lemmas.List.{drop_at, length-take-le}
use Rattle.std.proofs.lemmas.Bool.{and_parts, eqb-true, leb-true, leb-false, le-leb, lt-leb, le-ltb, lt-ltb}
use Rattle.pages.specs.Lists.{or}
use Rattle.pages.specs.Bytes.{all_bytes, eight, placed}
use Rattle.pages.specs.Cells.{Cell, contents, keys}
use Rattle.pages.specs.Device.{Page, page_at, a_page}
use Rattle.pages.specs.Fields.{at}
use Rattle.pages.specs.Run.{Event, page, said, read, refused}
use Rattle.pages.specs.Store.{Up}
use Rattle.pages.proofs.Commits.{Batch}
use Rattle.pages.proofs.Parts.{length_placed}
use Rattle.pages.proofs.Recovers.{does}
use Rattle.pages.proofs.Safe.{Safe}
use Rattle.records.specs.Command.{Command as Meant, join, zone, put, change, drop_event, skip, list, busy_times, free, next_one, shown, joins, fits}
use Rattle.records.specs.Does.{Outcome, accept, closing, count_in, cursor_in, weight_in, do_join, does as does_command, join_accepted, names_from, names_in, names_on, new_person, new_root, put_block, refuse, known_here}
use Rattle.records.specs.Promise.{Said}
use Rattle.records.specs.Reader.{bytes_in, found}
use Rattle.records.specs.Reads.{Reads}
use Rattle.records.specs.declared.command.Command.TheVariants.{Join}
use Rattle.records.specs.declared.command.Part.{Part}
use Rattle.records.proofs.Holds.{Fine}
use Rattle.records.proofs.Persons.{names_all}
use Rattle.records.proofs.Right.{reads}
use Rattle.records.proofs.Views.{count_is}
use Rattle.engine_next.specs.Memory.{batch_in, head_in, loaded, name_in, root_in, stored, with_batch, with_name, with_root}
use Rattle.engine_next.specs.OnPages.{outcome}
use Rattle.engine_next.specs.Own.{own, counted, deciding, join_head, joining, looking_from, scanning, smaller, with_join_head, with_new_person, with_new_root}
use Rattle.engine_next.specs.Phases.{phase_of}
use Rattle.engine_next.specs.declared.registers.Registers.{Registers}
use Rattle.engine_next.proofs.Areas.{Ready, batch_back, batch_batch, batch_head, head_back, loaded_stored, long_batch, long_head, long_name, long_root, long_stored, name_back, name_root, name_stored, root_back, root_batch, root_past, root_stored}
use Rattle.engine_next.proofs.Beside.{Inv, beside_step}
use Rattle.engine_next.proofs.Running.{Stops, Ends, commit_now, fine_batch, page_there, reads_page, refuse_now}
use Rattle.engine_next.proofs.Turns.{house_of, own_page, own_said}

pub joins_here : (c : Meant) → joins c ≡ true → known_here c ≡ true
unfolding joins known_here
joins_here (join nm) h = refl
joins_here (zone k z) h = h
joins_here (put a e) h = refl
joins_here (change a k e) h = refl
joins_here (drop_event a k) h = refl
joins_here (skip a k d) h = refl
joins_here (list a f u) h = h
joins_here (busy_times ps f u) h = h
joins_here (free ps k f u) h = h
joins_here (next_one a u) h = h
joins_here (shown a k) h = refl

bytes_of : (p : Page) → a_page p ≡ true → all_bytes p ≡ true
bytes_of p h = (and_parts _ _ h).1

size_of : (p : Page) → a_page p ≡ true → length p ≡ 512
size_of p h = eqb-true _ _ (and_parts _ _ h).0

module _ (n : ℕ) (low : 256 ≤ n) (high : n ≤ 1048576) (i₀ : ℕ) (s : List Page) (inv : Inv n (suc i₀) s) (t : List ℕ) (part : Part) (e : found t ≡ Some (Join part)) where
  nm : List ℕ
  nm = bytes_in t part

  count : ℕ
  count = count_in s

  weight : ℕ
  weight = weight_in s

  o_is : outcome joins n s t ≡ do_join n s nm
  unfolding outcome joins does_command nm
  o_is = rw e

  fitting : ((leb 1 (length nm) && leb (length nm) 64) ≡ true) × (all_bytes nm ≡ true)
  unfolding Reads Said fits nm
  fitting = and_parts _ _ (reads t (Some (Join part)) e).1

  short : length nm ≤ 64
  short = leb-true _ _ (and_parts _ _ fitting.0).1

  few : count ≤ 256
  unfolding count
  few = let h = inv.1.holds in let c = count_is n inv.1.bound s h.ghost h.sound h.size h.shown in omega (arith, h.sound.few)

  -- what is known of registers and memory while names are looked through
  record Looking (r : Registers) (m : List ℕ) : Type 0 where
    pages : r.pages ≡ n
    long : r.long ≡ length nm
    people : r.people ≡ count
    weighs : r.weight ≡ weight
    ready : Ready n m
    name : name_in (length nm) m ≡ nm
    root : root_in m ≡ page_at s 0

  ready_stored : (r : Registers) (m : List ℕ) → r.pages ≡ n → length m ≡ 262144 → Ready n (stored r m)
  ready_stored r m h l = record { long = long_stored r m l; has = ap (λ (x : Registers). x.pages) (loaded_stored r m) ∙ h }

  looking_on : (ph i : ℕ) (r : Registers) (m : List ℕ) → Looking r m → Looking (scanning ph i r) (stored (scanning ph i r) m)
  looking_on ph i r m h =
      record {
        pages = h.pages;
        long = h.long;
        people = h.people;
        weighs = h.weighs;
        ready = ready_stored (scanning ph i r) m h.pages h.ready.long;
        name = name_stored (length nm) (scanning ph i r) m ∙ h.name;
        root = root_stored (scanning ph i r) m ∙ h.root;
      }

  abbrev Runs : List ℕ → List Page → List Page → Event → ℕ → Type 0
  Runs m xs ys ev k = Safe own (Stops joins n low high s t) (Ends joins n low high s t) m xs ys ev [] k

  -- THE BATCH: nobody has the name, and there is room
  module _ (unnamed : names_in s count nm ≡ false) (some : count < 256) (room : weight + 256 ≤ 128 * n) where
    bt : List Cell
    bt = closing s count (new_person nm) (suc count) (weight + 256) (cursor_in s)

    accepted : outcome joins n s t ≡ accept (eight count ∷ []) bt
    unfolding do_join join_accepted bt count weight
    accepted = o_is ∙ rw (unnamed, lt-leb 256 (count_in s) some, le-leb (weight_in s + 256) (128 * n) room)

    fine : Batch n bt
    fine =
        let x = beside_step joins joins_here n i₀ s inv.0 inv.1 t in
        fine_batch n s bt inv.1.holds.size (subst (λ (z : Outcome). Fine s z.batch) accepted x.fine)

    abbrev first_page : Page
    first_page = put_block (count % 4) (new_person nm) (page_at s (suc (count / 4)))

    abbrev second_page : Page
    second_page = new_root (page_at s 0) (suc count) (weight + 256) (cursor_in s)

    first_fine : a_page first_page ≡ true
    unfolding bt contents page_at
    first_fine = fine.pages 0 (omega arith)

    second_fine : a_page second_page ≡ true
    unfolding bt contents page_at
    second_fine = fine.pages 1 (omega arith)

    -- the memory when the page of the new person has come
    module _ (r : Registers) (m : List ℕ) (h : Looking r m) where
      x : Page
      x = page_at s (suc (count / 4))

      m₁ : List ℕ
      m₁ = with_new_person r x m

      m₂ : List ℕ
      m₂ = with_new_root r m₁

      m₃ : List ℕ
      m₃ = with_join_head r m₂

      first_is : put_block (r.people % 4) (new_person (name_in r.long m)) x ≡ first_page
      unfolding x
      first_is = rw (h.people, h.long, h.name)

      one_is : m₁ ≡ with_batch 0 first_page m
      unfolding m₁
      one_is = ap (λ w. with_batch 0 w m) first_is

      long₁ : length m₁ ≡ 262144
      long₁ = rw one_is (long_batch 0 first_page m (omega arith) (size_of first_page first_fine) h.ready.long)

      root₁ : root_in m₁ ≡ page_at s 0
      root₁ = ap root_in one_is ∙ root_batch 0 first_page m (omega arith) h.ready.long ∙ h.root

      second_is : new_root (root_in m₁) (r.people + 1) (r.weight + 256) (at 16 8 (root_in m₁)) ≡ second_page
      second_is = rw (root₁, h.people, h.weighs, add-one count)

      two_is : m₂ ≡ with_batch 1 second_page m₁
      unfolding m₂
      two_is = ap (λ w. with_batch 1 w m₁) second_is

      long₂ : length m₂ ≡ 262144
      long₂ = rw two_is (long_batch 1 second_page m₁ (omega arith) (size_of second_page second_fine) long₁)

      head₂ : length (head_in m₂) ≡ 32
      unfolding head_in
      head₂ = let l = long₂ in simp (length-take, length-drop) (omega arith)

      addresses : length (join_head r.people (head_in m₂)) ≡ 32
      unfolding join_head
      addresses = let l = head₂ in length_placed 2 (2 ∷ (r.people / 4 + 1) ∷ 0 ∷ []) (head_in m₂) (omega arith) ∙ l

      long₃ : length m₃ ≡ 262144
      unfolding m₃
      long₃ = long_head _ m₂ addresses long₂

      head₃ : head_in m₃ ≡ join_head r.people (head_in m₂)
      unfolding m₃
      head₃ = head_back _ m₂ addresses long₂

      headed : drop 2 (head_in m₃) ≡ length bt ∷ (keys bt ++ drop 5 (head_in m₂))
      unfolding join_head placed bt keys
      headed =
          let l = head₂ in
          ap (drop 2) head₃ ∙ drop_at (take 2 (head_in m₂)) _ 2 (length-take-le 2 (head_in m₂) (omega arith))
          ∙ ap (λ a. 2 ∷ a ∷ 0 ∷ drop 5 (head_in m₂)) (ap (λ c. c / 4 + 1) h.people ∙ add-one (count / 4))

      pages_there : (i : ℕ) → i < length bt → batch_in i m₃ ≡ page_at (contents bt) i
      unfolding m₃ bt contents page_at
      pages_there zero l =
          batch_head 0 _ m₂ addresses long₂ ∙ ap (batch_in 0) two_is ∙ batch_batch 0 1 second_page m₁ (omega arith) (omega arith) (size_of second_page second_fine) long₁
          ∙ ap (batch_in 0) one_is ∙ batch_back 0 first_page m (omega arith) (bytes_of first_page first_fine) (size_of first_page first_fine) h.ready.long
      pages_there (suc zero) l =
          batch_head 1 _ m₂ addresses long₂ ∙ ap (batch_in 1) two_is ∙ batch_back 1 second_page m₁ (omega arith) (bytes_of second_page second_fine) (size_of second_page second_fine) long₁
      pages_there (suc (suc i)) l = absurd (omega arith)

      joins_now : (r₁ : Registers) → r₁.pages ≡ n → r₁.phase ≡ 13 → r₁.people ≡ count → (m₀ : List ℕ) (xs ys : List Page) (ev : Event) (k : ℕ) →
          own.step m₀ ev ≡ does (stored r₁ m₃) (read 0 0) → Up n xs ys s → Runs m₀ xs ys ev k
      joins_now r₁ rp rf rc m₀ xs ys ev k q u =
          commit_now joins n low high s t r₁ m₃ (drop 5 (head_in m₂)) rp rf long₃
          (subst (λ (z : Outcome). drop 2 (head_in m₃) ≡ length z.batch ∷ (keys z.batch ++ drop 5 (head_in m₂))) (sym accepted) headed)
          (ap length head₃ ∙ addresses)
          (subst (λ (z : Outcome). (i : ℕ) → i < length z.batch → batch_in i m₃ ≡ page_at (contents z.batch) i) (sym accepted) pages_there)
          (subst (λ (z : Outcome). Batch n z.batch) (sym accepted) fine)
          (ap (λ (z : Outcome). z.reply) accepted)
          (ap (λ (z : Outcome). z.shows) accepted ∙ ap (λ c. eight c ∷ []) (sym rc))
          m₀ xs ys ev k q u

    -- the page of the new person is read
    accepts : (r : Registers) (m : List ℕ) → Looking r m → (m₀ : List ℕ) (xs ys : List Page) (ev : Event) (k : ℕ) →
        own.step m₀ ev ≡ does (stored (scanning 22 0 r) m) (read 0 (60 + r.people / 4)) → Up n xs ys s → Runs m₀ xs ys ev k
    unfolding phase_of x m₁ m₂ m₃
    accepts r m h m₀ xs ys ev k q u =
        let r₁ = scanning 22 0 r in
        let g = looking_on 22 0 r m h in
        let l : 59 + suc (count / 4) < n = omega arith in
        let v = page_there joins n low high s t (suc (count / 4)) l xs ys u in
        let a : 60 + r.people / 4 ≡ 59 + suc (count / 4) = omega (arith, h.people) in
        reads_page joins n low high s t (suc (count / 4)) l m₀ (stored r₁ m) xs ys ev k (q ∙ ap (λ j. does (stored r₁ m) (read 0 j)) a) u
        (joins_now r₁ (stored r₁ m) g (scanning 13 0 r₁) h.pages refl h.people (stored r₁ m) xs ys _ (suc k)
        (own_page r₁ m (page_at s (suc (count / 4))) h.ready.long (rw h.pages (house_of n low high)) v
        ∙ rw (lt-ltb r.people 256 (omega (arith, h.people)), le-leb (r.weight + 256) (128 * r.pages) (omega (arith, h.weighs, h.pages)), le-leb r.long 64 (omega (arith, h.long, short))))
        u)

  -- how the page house refuses
  taken : names_in s count nm ≡ true → outcome joins n s t ≡ refuse 4
  unfolding do_join count
  taken f = o_is ∙ rw f

  full_house : names_in s count nm ≡ false → leb 256 count ≡ true → outcome joins n s t ≡ refuse 7
  unfolding do_join count
  full_house f z = o_is ∙ rw (f, z)

  no_room : names_in s count nm ≡ false → leb 256 count ≡ false → leb (weight + 256) (128 * n) ≡ false → outcome joins n s t ≡ refuse 8
  unfolding do_join count weight
  no_room f z w = o_is ∙ rw (f, z, w)

  refuses_now : (c : ℕ) → 1 ≤ c → c < 1000 → outcome joins n s t ≡ refuse c → (m : List ℕ) → Ready n m → (m₀ : List ℕ) (xs ys : List Page) (ev : Event) (k : ℕ) →
      own.step m₀ ev ≡ does m (refused c) → Up n xs ys s → Runs m₀ xs ys ev k
  refuses_now c l h f m y m₀ xs ys ev k q u = refuse_now joins n low high s t c l h f m₀ m xs ys ev k q y u

  -- nobody has the name
  decides : names_in s count nm ≡ false → (r : Registers) (m : List ℕ) → Looking r m → (m₀ : List ℕ) (xs ys : List Page) (ev : Event) (k : ℕ) →
      own.step m₀ ev ≡ deciding r m → Up n xs ys s → Runs m₀ xs ys ev k
  unfolding deciding
  decides f r m h m₀ xs ys ev k q u = full (leb 256 count) refl
    where
      light : (b : Bool) → leb 256 count ≡ false → leb (weight + 256) (128 * n) ≡ b → Runs m₀ xs ys ev k
      light true z w = accepts f (leb-false 256 count z) (leb-true _ _ w) r m h m₀ xs ys ev k (q ∙ rw (ap (leb 256) h.people ∙ z, ap (λ a. leb (a + 256) (128 * r.pages)) h.weighs ∙ ap (λ a. leb (weight + 256) (128 * a)) h.pages ∙ w)) u
      light false z w =
          refuses_now 8 (omega arith) (omega arith) (no_room f z w) m h.ready m₀ xs ys ev k
          (q ∙ rw (ap (leb 256) h.people ∙ z, ap (λ a. leb (a + 256) (128 * r.pages)) h.weighs ∙ ap (λ a. leb (weight + 256) (128 * a)) h.pages ∙ w)) u

      full : (b : Bool) → leb 256 count ≡ b → Runs m₀ xs ys ev k
      full true z = refuses_now 7 (omega arith) (omega arith) (full_house f z) m h.ready m₀ xs ys ev k (q ∙ rw (ap (leb 256) h.people ∙ z)) u
      full false z = light (leb (weight + 256) (128 * n)) z refl

  -- a page of people came
  names_step : (i : ℕ) → i < 64 → 59 + suc i < n → (r : Registers) (m : List ℕ) → Looking r m → (xs ys : List Page) → Up n xs ys s →
      own.step (stored (scanning 21 i r) m) (page (page_at s (suc i)))
      ≡ cond (names_on (page_at s (suc i)) (smaller 4 (count - 4 * i)) nm) (does (stored (scanning 21 i r) m) (refused 4)) (looking_from (i + 1) (scanning 21 i r) (stored (scanning 21 i r) m))
  unfolding phase_of
  names_step i l b r m h xs ys u =
      let r₁ = scanning 21 i r in
      let m₁ = stored r₁ m in
      own_page r₁ m (page_at s (suc i)) h.ready.long (rw h.pages (house_of n low high)) (page_there joins n low high s t (suc i) b xs ys u)
      ∙ rw (lt-ltb i 64 l, le-leb r.people 256 (omega (arith, h.people, few)), le-leb r.long 64 (omega (arith, h.long, short)))
      (ap (λ w. cond w (does m₁ (refused 4)) (looking_from (i + 1) r₁ m₁))
      (ap₂ (names_on (page_at s (suc i))) (ap (λ c. smaller 4 (c - 4 * i)) h.people) (ap (λ c. name_in c m₁) h.long ∙ (looking_on 21 i r m h).name)))

  -- the names from a page of people on, so many pages left
  looks : (j i : ℕ) → (count + 3) / 4 ≡ i + j → names_from j s count i nm ≡ names_in s count nm → (r : Registers) (m : List ℕ) → Looking r m →
      (m₀ : List ℕ) (xs ys : List Page) (ev : Event) (k : ℕ) → own.step m₀ ev ≡ looking_from i r m → Up n xs ys s → Runs m₀ xs ys ev k
  unfolding looking_from names_from
  looks zero i a f r m h m₀ xs ys ev k q u =
      let l : r.people ≤ 4 * i = omega (arith, h.people) in
      decides (sym f) r m h m₀ xs ys ev k (q ∙ rw (le-ltb (4 * i) r.people l)) u
  looks (suc j) i a f r m h m₀ xs ys ev k q u =
      let l : 4 * i < r.people = omega (arith, h.people) in
      let c : i < 64 = omega (arith, few) in
      let b : 59 + suc i < n = omega arith in
      let w : 60 + i ≡ 59 + suc i = omega arith in
      reads_page joins n low high s t (suc i) b m₀ (stored (scanning 21 i r) m) xs ys ev k (q ∙ rw (lt-ltb (4 * i) r.people l) (ap (λ d. does (stored (scanning 21 i r) m) (read 0 d)) w)) u
      (seen (names_on (page_at s (suc i)) (smaller 4 (count - 4 * i)) nm) refl (names_step i c b r m h xs ys u)
      (λ g p. looks j (suc i) (omega arith) g (scanning 21 i r) (stored (scanning 21 i r) m) (looking_on 21 i r m h) (stored (scanning 21 i r) m) xs ys (page (page_at s (suc i))) (suc k) (p ∙ ap (λ d. looking_from d (scanning 21 i r) (stored (scanning 21 i r) m)) (add-one i)) u))
    where
      seen : (b : Bool) → names_on (page_at s (suc i)) (smaller 4 (count - 4 * i)) nm ≡ b →
          own.step (stored (scanning 21 i r) m) (page (page_at s (suc i)))
          ≡ cond (names_on (page_at s (suc i)) (smaller 4 (count - 4 * i)) nm) (does (stored (scanning 21 i r) m) (refused 4)) (looking_from (i + 1) (scanning 21 i r) (stored (scanning 21 i r) m)) →
          (names_from j s count (suc i) nm ≡ names_in s count nm →
          own.step (stored (scanning 21 i r) m) (page (page_at s (suc i))) ≡ looking_from (i + 1) (scanning 21 i r) (stored (scanning 21 i r) m) →
          Runs (stored (scanning 21 i r) m) xs ys (page (page_at s (suc i))) (suc k)) →
          Runs (stored (scanning 21 i r) m) xs ys (page (page_at s (suc i))) (suc k)
      seen true w p on =
          refuses_now 4 (omega arith) (omega arith) (taken (sym f ∙ ap (λ b. or b (names_from j s count (suc i) nm)) w)) (stored (scanning 21 i r) m)
          (ready_stored (scanning 21 i r) m h.pages h.ready.long) (stored (scanning 21 i r) m) xs ys _ (suc k)
          (p ∙ ap (λ b. cond b (does (stored (scanning 21 i r) m) (refused 4)) (looking_from (i + 1) (scanning 21 i r) (stored (scanning 21 i r) m))) w) u
      seen false w p on =
          on (sym (ap (λ b. or b (names_from j s count (suc i) nm)) w) ∙ f)
          (p ∙ ap (λ b. cond b (does (stored (scanning 21 i r) m) (refused 4)) (looking_from (i + 1) (scanning 21 i r) (stored (scanning 21 i r) m))) w)

  -- THE COMMAND
  pub join_runs : (m : List ℕ) (xs ys : List Page) → Ready n m → Up n xs ys s → Runs m xs ys (said t) 0
  unfolding phase_of nm count weight
  join_runs m xs ys y u =
      let r = joining n (length nm) in
      let m₀ = with_name nm m in
      let l₀ = long_name nm m short y.long in
      let l₁ = long_stored r m₀ l₀ in
      let x = page_at s 0 in
      let b : 59 + 0 < n = omega arith in
      let v = page_there joins n low high s t 0 b xs ys u in
      let z = size_of x v in
      let m₁ = with_root x (stored r m₀) in
      let past = root_past r x m₀ l₀ in
      let l₂ = long_root x (stored r m₀) z l₁ in
      reads_page joins n low high s t 0 b m (stored r m₀) xs ys (said t) 0 (own_said n m t low high y ∙ rw (e, le-leb (length nm) 64 short)) u
      (looks ((count + 3) / 4) 0 (omega arith) (names_all s count nm) (counted (at 0 8 x) (at 8 8 x) r) m₁
      (record {
        pages = refl;
        long = refl;
        people = refl;
        weighs = refl;
        ready = record { long = l₂; has = ap (λ c. (loaded c).pages) past ∙ ap (λ (c : Registers). c.pages) (loaded_stored r (with_root x m₀)) };
        name = name_root (length nm) x (stored r m₀) short l₁ ∙ name_stored (length nm) r m₀ ∙ name_back (length nm) nm m fitting.1 refl y.long;
        root = root_back x (stored r m₀) (bytes_of x v) z l₁;
      })
      (stored r m₀) xs ys (page x) 1
      (own_page r m₀ x l₀ (house_of n low high) v ∙ rw (le-leb (at 0 8 x) 256 few)) u)

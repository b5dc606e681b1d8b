-- A command on the machine: pages read, a refusal, and a batch committed with a number shown after it. Every stop on the way is one of the plain house's.
use Rattle.std.proofs.Common.{◌≡◌, ℕ, zero, suc, ◌+◌, ◌-◌, ◌<◌, ◌≤◌, Bool, true, false, not, List, [], ◌∷◌, ◌++◌, length, get_or, drop, sym, refl, ap, ◌∙◌, subst, inl, inr, arith, length-drop}
use Rattle.std.proofs.lemmas.List.{get_or_append_left}
use Rattle.std.proofs.lemmas.Bool.{eq-eqb, ne_eqb, le-leb, lt-ltb}
use Rattle.pages.specs.Lists.{bit}
use Rattle.pages.specs.Bytes.{eight}
use Rattle.pages.specs.Cells.{Cell, contents, keys, looked_up, written}
use Rattle.pages.specs.Device.{Page, page_at, a_page}
use Rattle.pages.specs.Frame.{One}
use Rattle.pages.specs.Run.{Event, page, Ran, read, refused, refusal_end}
use Rattle.pages.specs.Store.{area, Up, Off}
use Rattle.pages.specs.Journal.{opened}
use Rattle.pages.proofs.Batch.{apart, keys_long, rest_once, standing}
use Rattle.pages.proofs.Cells.{tk}
use Rattle.pages.proofs.Commits.{Batch, commit_batch, up_page}
use Rattle.pages.proofs.Owing.{Saying, Said}
use Rattle.pages.proofs.Recovers.{does}
use Rattle.pages.proofs.Rules.{reads_0, says, finishes, refuses}
use Rattle.pages.proofs.Safe.{Crash, Safe}
use Rattle.pages.proofs.Store.{up_quiet}
use Rattle.pages.proofs.Stores.{Idling, commit_stop}
use Rattle.records.specs.Command.{Command as Meant}
use Rattle.records.specs.Does.{Outcome, refuse}
use Rattle.records.proofs.Holds.{Fine}
use Rattle.engine_next.specs.Memory.{batch_in, head_in, stored, with_head}
use Rattle.engine_next.specs.OnPages.{outcome, PageMay}
use Rattle.engine_next.specs.Own.{own, page_in, scanning, told}
use Rattle.engine_next.specs.Phases.{phase_of}
use Rattle.engine_next.specs.declared.registers.Registers.{Registers}
use Rattle.engine_next.proofs.Areas.{Ready, batch_head, batch_stored, head_back, head_stored, loaded_stored, long_head, long_stored}
use Rattle.engine_next.proofs.Committing.{Prepared, own_committing, commit_starts, committed_all}
use Rattle.engine_next.proofs.Turns.{house_of, own_next, own_page}

-- a page of a batch, by its address
looked_index : (b : List Cell) → ((k : ℕ) → tk b k ≤ 1) → (i : ℕ) → i < length b → looked_up b (get_or (keys b) i 0) [] ≡ page_at (contents b) i
unfolding looked_up keys contents page_at
looked_index [] h i l = absurd (omega arith)
looked_index (c ∷ b) h zero l = rw (eq-eqb c.key c.key refl)
looked_index (c ∷ b) h (suc i) l =
    rw (ne_eqb c.key (get_or (keys b) i 0) (apart c.key (keys b) i (rw (keys_long b) (omega arith)) h)) (looked_index b (rest_once c.key (keys b) h) i (omega arith))

pub fine_batch : (n : ℕ) (s : List Page) (b : List Cell) → length s ≡ n - 59 → Fine s b → Batch n b
fine_batch n s b l f =
    record {
      few = f.few;
      once = f.apart;
      named = λ i li. let k = keys_long b in let w = f.inside (get_or (keys b) i 0) (standing (keys b) i (omega arith)) in omega arith;
      pages = λ i li. let k = keys_long b in
          subst (λ p. a_page p ≡ true) (looked_index b f.apart i li) (f.pages_ok (get_or (keys b) i 0) (standing (keys b) i (omega arith)));
    }

module _ (known : Meant → Bool) (n : ℕ) (low : 256 ≤ n) (high : n ≤ 1048576) (s : List Page) (t : List ℕ) where
  abbrev pub Stops : Crash
  Stops = Saying (PageMay known n) (Off n) s t

  abbrev pub Ends : Ran → Type 0
  Ends = Said (PageMay known n) (Idling n (Ready n)) s t

  abbrev pub o : Outcome
  o = outcome known n s t

  -- nothing is changed yet
  pub resting : (xs ys : List Page) → Up n xs ys s → Stops xs ys []
  resting xs ys u =
      commit_stop n (PageMay known n) s (written s o.batch) t [] o.shows 0 o.reply (record { ends = refl; shows = refl; after = refl }) xs ys s s (inl refl) (inl refl) (up_quiet n xs ys s u)

  -- a logical page is read
  pub reads_page : (k : ℕ) → 59 + k < n → (m m₁ : List ℕ) (xs ys : List Page) (ev : Event) (r : ℕ) → own.step m ev ≡ does m₁ (read 0 (59 + k)) → Up n xs ys s →
      Safe own Stops Ends m₁ xs ys (page (page_at s k)) [] (suc r) → Safe own Stops Ends m xs ys ev [] r
  reads_page k l m m₁ xs ys ev r p u h = reads_0 m₁ (59 + k) p (subst (λ x. Safe own Stops Ends m₁ xs ys (page x) [] (suc r)) (sym (up_page n xs ys s u k l)) h)

  pub page_there : (k : ℕ) → 59 + k < n → (xs ys : List Page) → Up n xs ys s → a_page (page_at s k) ≡ true
  page_there k l xs ys u = subst (λ x. a_page x ≡ true) (up_page n xs ys s u k l) (u.sheets_0.valid (59 + k) l)

  -- a refusal
  pub refuse_now : (k : ℕ) → 1 ≤ k → k < 1000 → o ≡ refuse k → (m m₁ : List ℕ) (xs ys : List Page) (ev : Event) (r : ℕ) → own.step m ev ≡ does m₁ (refused k) → Ready n m₁ → Up n xs ys s →
      Safe own Stops Ends m xs ys ev [] r
  unfolding written
  refuse_now k l h e m m₁ xs ys ev r p y u =
      let q : refusal_end k ≡ k = rw (le-leb 1 k l, lt-ltb k 1000 h) in
      refuses m₁ k p (resting xs ys u)
      (record {
        after = s;
        told = record { ends = q ∙ sym (ap (λ (x : Outcome). x.reply) e); shows = sym (ap (λ (x : Outcome). x.shows) e); after = sym (ap (λ (x : Outcome). written s x.batch) e) };
        here = record { calm = refl; up = record { ready = y; up = u } };
      })

  -- a batch is committed and a number shown
  module _ (r : Registers) (m : List ℕ) (rest : List ℕ) (pages : r.pages ≡ n) (phase : r.phase ≡ 13) (long : length m ≡ 262144)
      (headed : drop 2 (head_in m) ≡ length o.batch ∷ (keys o.batch ++ rest)) (head_long : length (head_in m) ≡ 32)
      (pages_there : (i : ℕ) → i < length o.batch → batch_in i m ≡ page_at (contents o.batch) i)
      (ok : Batch n o.batch) (accepted : o.reply ≡ 0) (shown : o.shows ≡ eight r.people ∷ []) where
    after : List Page
    after = written s o.batch

    on_the_way : (xs ys a b : List Page) → One a s after → One b s after → Off n xs ys a b true → Stops xs ys []
    unfolding after
    on_the_way xs ys a b oa ob f = commit_stop n (PageMay known n) s after t [] o.shows 0 o.reply (record { ends = refl; shows = refl; after = refl }) xs ys a b oa ob f

    -- shown, and done
    told_now : (m₀ : List ℕ) → length m₀ ≡ 262144 → (m₁ : List ℕ) (xs ys : List Page) (ev : Event) (k : ℕ) → own.step m₁ ev ≡ told r m₀ → Up n xs ys after → Safe own Stops Ends m₁ xs ys ev [] k
    unfolding after phase_of
    told_now m₀ l m₁ xs ys ev k p u =
        let r₁ = scanning 23 0 r in
        let r₂ = scanning 0 0 r₁ in
        let f = up_quiet n xs ys after u in
        says (stored r₁ m₀) (eight r.people) p (on_the_way xs ys after after (inr refl) (inr refl) f)
        (finishes (stored r₂ (stored r₁ m₀)) (own_next r₁ m₀ l (rw pages (house_of n low high)))
        (commit_stop n (PageMay known n) s after t (eight r.people ∷ []) [] 0 0 (record { ends = sym accepted; shows = sym shown; after = refl }) xs ys after after (inr refl) (inr refl) f)
        (record {
          after = after;
          told = record { ends = sym accepted; shows = sym shown; after = refl };
          here = record { calm = refl; up = record { ready = record { long = long_stored r₂ (stored r₁ m₀) (long_stored r₁ m₀ l); has = ap (λ (x : Registers). x.pages) (loaded_stored r₂ (stored r₁ m₀)) ∙ pages }; up = u } };
        }))

    -- the header of the first device came
    ws : Page → List ℕ
    ws p = opened (head_in (stored r m)) p

    kept : Page → List ℕ
    kept p = with_head (ws p) (stored r m)

    ws_is : (p : Page) → ws p ≡ 1 ∷ bit (not (area p)) ∷ length o.batch ∷ (keys o.batch ++ rest)
    unfolding ws
    ws_is p = ap (λ x. 1 ∷ bit (not (area p)) ∷ x) (ap (drop 2) (head_stored r m) ∙ headed)

    ws_long : (p : Page) → length (ws p) ≡ 32
    unfolding ws
    ws_long p = let h = head_long in let e = ap length (head_stored r m) in simp length-drop (omega arith)

    small_head : (p : Page) (i : ℕ) → i < 3 + length o.batch → get_or (ws p) i 0 < 18446744073709551616
    small_head p i l = subst (λ x. get_or x i 0 < 18446744073709551616) (sym (ws_is p)) (go i l)
      where
        bit_low : (b : Bool) → bit b ≤ 1
        bit_low true = omega arith
        bit_low false = omega arith

        go : (i : ℕ) → i < 3 + length o.batch → get_or (1 ∷ bit (not (area p)) ∷ length o.batch ∷ (keys o.batch ++ rest)) i 0 < 18446744073709551616
        go zero l = omega arith
        go (suc zero) l = let h = bit_low (not (area p)) in omega arith
        go (suc (suc zero)) l = let f = ok.few in omega arith
        go (suc (suc (suc j))) l =
            let k = keys_long o.batch in
            let w = ok.named j (omega arith) in
            subst (λ x. x < 18446744073709551616) (sym (get_or_append_left (keys o.batch) rest 0 j (omega arith))) (omega arith)

    prepared : (p : Page) → Prepared n (not (area p)) o.batch r (kept p) (ws p)
    unfolding kept
    prepared p =
        let l₁ = long_stored r m long in
        record {
          pages = pages;
          long = long_head (ws p) (stored r m) (ws_long p) l₁;
          head = head_back (ws p) (stored r m) (ws_long p) l₁;
          head_long = ws_long p;
          head_small = small_head p;
          mark = ap (λ x. get_or x 0 0) (ws_is p);
          area = ap (λ x. get_or x 1 0) (ws_is p);
          count = ap (λ x. get_or x 2 0) (ws_is p);
          addresses = λ i l. ap (λ x. get_or x (3 + i) 0) (ws_is p) ∙ third i p ∙ (let k = keys_long o.batch in get_or_append_left (keys o.batch) rest 0 i (omega arith));
          batch = λ i l. batch_head i (ws p) (stored r m) (ws_long p) l₁ ∙ batch_stored i r m ∙ pages_there i l;
        }
      where
        third : (i : ℕ) (p : Page) → get_or (1 ∷ bit (not (area p)) ∷ length o.batch ∷ (keys o.batch ++ rest)) (3 + i) 0 ≡ get_or (keys o.batch ++ rest) i 0
        third i p = ap (λ j. get_or (1 ∷ bit (not (area p)) ∷ length o.batch ∷ (keys o.batch ++ rest)) j 0) (let v : 3 + i ≡ suc (suc (suc i)) = omega arith in v)

    pub commit_now : (m₁ : List ℕ) (xs ys : List Page) (ev : Event) (k : ℕ) → own.step m₁ ev ≡ does (stored r m) (read 0 0) → Up n xs ys s → Safe own Stops Ends m₁ xs ys ev [] k
    unfolding ws kept after phase_of
    commit_now m₁ xs ys ev k e u =
        let p = page_at xs 0 in
        let vp = u.sheets_0.valid 0 (omega arith) in
        let house = house_of n low high in
        let c = own_committing n house high (not (area p)) o.batch ok r (kept p) (ws p) (prepared p) in
        reads_0 (stored r m) 0 e
        (commit_batch own Stops Ends n (stored r m) xs ys s (page p) [] (suc k) u o.batch ok (area p) refl c on_the_way
        (λ m₂ xs₂ ys₂ ev₂ k₂ _ q u₂. told_now (kept p) (prepared p).long m₂ xs₂ ys₂ ev₂ k₂ (q ∙ committed_all n house high (not (area p)) o.batch ok r (kept p) (ws p) (prepared p)) u₂)
        (own_page r m p long (rw pages house) vp ∙ ap (λ f. page_in (phase_of f) r p (stored r m)) phase
        ∙ sym (commit_starts n house high (not (area p)) o.batch ok r (kept p) (ws p) (prepared p))))

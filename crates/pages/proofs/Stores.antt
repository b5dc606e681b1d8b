-- A store with recovery, as the framework wants it: all but the commands is owed already.
use Rattle.std.proofs.Common.{◌≡◌, ℕ, suc, ◌≤◌, Bool, true, false, List, [], ◌++◌, length, sym, refl, ◌∙◌, inl, arith}
use Rattle.pages.specs.Device.{Page, blank}
use Rattle.pages.specs.Run.{Engine, on, said, done}
use Rattle.pages.specs.Frame.{One, Rule}
use Rattle.pages.specs.Store.{count, Up, Off, Alike}
use Rattle.pages.proofs.Safe.{Safe}
use Rattle.pages.proofs.Rules.{finishes}
use Rattle.pages.proofs.Owing.{Waking, Woke, Saying, Said, PlainOwed}
use Rattle.pages.proofs.Store.{up_quiet, off_weaken, blank_sheets, blank_unmarked, lose_0, lose_1}
use Rattle.pages.proofs.Recovers.{Recovery, Sound, does, off_alone, recovers}
use Rattle.pages.proofs.Commits.{up_page}

-- powered and idle: the memory is as it is then, and the store is up
pub record Idling (n : ℕ) (Ready : List ℕ → Type 0) (m : List ℕ) (xs ys s : List Page) : Type 0 where
  pub ready : Ready m
  pub up : Up n xs ys s

-- at a stop in a command whose end is known
pub commit_stop : (n : ℕ) (may : Rule (List Page)) (s t : List Page) (text : List ℕ) (ss more : List (List ℕ)) (used reply : ℕ) → may s text (ss ++ more) used reply t →
    (xs ys a b : List Page) → One a s t → One b s t → Off n xs ys a b true → Saying may (Off n) s text xs ys ss
commit_stop n may s t text ss more used reply told xs ys a b oa ob h =
    record { more = more; used = used; reply = reply; after = t; told = told; one = a; other = b; one_is = oa; other_is = ob; left = h }

module _ (e : Engine) (n : ℕ) (R : Recovery e n) (Ready : List ℕ → Type 0)
    -- when all is replayed, power has come up
    (idle : Page → List ℕ) (ready : (p : Page) → Sound n p → Ready (idle p)) (ends : (p : Page) → Sound n p → R.replay p (count p) ≡ does (idle p) done) where
  pub store_wakes : (xs ys a b : List Page) (both : Bool) → Off n xs ys a b both →
      Safe e (Waking (Off n) a b both) (Woke (Idling n Ready) a b) e.start xs ys (on (length xs)) [] 0
  store_wakes xs ys a b both h =
      rw h.sheets_0.size
      (recovers e (Waking (Off n) a b both) (Woke (Idling n Ready) a b) n R a b both []
      (λ xs₁ ys₁ a₁ b₁ oa ob o. record { silent = refl; one = a₁; other = b₁; one_is = oa; other_is = ob; left = o })
      (λ p sp s os m xs₁ ys₁ ev r eq u.
      finishes (idle p) (eq ∙ ends p sp) (record { silent = refl; one = s; other = s; one_is = os; other_is = os; left = quiet_so xs₁ ys₁ s both u })
      (record { well = refl; silent = refl; now = s; now_is = os; here = record { calm = refl; up = record { ready = ready p sp; up = u } } }))
      xs ys h 0)
    where
      quiet_so : (xs ys s : List Page) (both : Bool) → Up n xs ys s → Off n xs ys s s both
      quiet_so xs ys s true u = up_quiet n xs ys s u
      quiet_so xs ys s false u = off_weaken n xs ys s (up_quiet n xs ys s u)

  pub store_owed : (may : Rule (List Page)) (Inv : ℕ → List Page → Type 0) →
      ((i : ℕ) (m : List ℕ) (xs ys s : List Page) → Inv (suc i) s → Idling n Ready m xs ys s → (t : List ℕ) →
      Safe e (Saying may (Off n) s t) (Said may (Idling n Ready) s t) m xs ys (said t) [] 0) →
      ((i : ℕ) (s : List Page) → Inv (suc i) s → Inv i s) →
      ((i : ℕ) (s : List Page) (t : List ℕ) (ss : List (List ℕ)) (r reply : ℕ) (s₁ : List Page) → Inv (suc i) s → may s t ss r reply s₁ → Inv i s₁) →
      PlainOwed may e (Idling n Ready) (Off n) Inv
  store_owed may Inv say ages keeps =
      record {
        wake = store_wakes;
        say = say;
        quiet = λ m xs ys s u. up_quiet n xs ys s u.up;
        weaken = λ xs ys s h. off_weaken n xs ys s h;
        lose_0 = λ xs ys a b h. lose_0 n xs ys a b h;
        lose_1 = λ xs ys a b h. lose_1 n xs ys a b h;
        ages = ages;
        keeps = keeps;
      }

-- WHAT POWER MENDS
pub alike : Alike
unfolding Alike
alike n xs ys s u =
    let l = u.side_0.body.long in
    let lx = u.sheets_0.size in
    let room : 59 ≤ n = omega arith in
    let no_mark = blank_unmarked n room in (
      λ k h. (up_page n xs ys s u k h ∙ sym (u.applied_1 k (omega arith)), up_page n xs ys s u k h),
      off_alone n true ys (blank n) u.q u.c u.f s false u.sheets_1 (blank_sheets n) u.side_1 no_mark (inl refl),
      off_alone n false xs (blank n) u.q u.c u.f s false u.sheets_0 (blank_sheets n) u.side_0 no_mark (inl refl),
    )

-- A step of a machine, as the entry tells it. Nothing here depends on what the machine does.
use Rattle.std.proofs.Common.{◌≡◌, ℕ, ◌<◌, ◌≤◌, Bool, true, false, eqb, leb, List, ◌++◌, length, take, drop, Result, Err, sym, refl, ap, ◌∙◌, append_assoc, arith, length-append, length-drop, length-take-le, take-append-drop}
use Rattle.std.proofs.lemmas.List.{drop-append-le}
use Rattle.std.proofs.lemmas.Bool.{ne_eqb, eq-eqb, lt-leb, le-leb, and_left, and_right, true≢false, false≢true}
use Rattle.pages.specs.Bytes.{over}
use Rattle.pages.specs.Run.{Engine, Event, Step, Act, read, write, shows, done, refused}
use Rattle.engine.specs.Acts.{Outcome, Quiet, out_of, quiet}
use Rattle.engine.specs.Entry.{event_of, ActTold, TellSays, tell_fits, StepSays, step_fits}
use Rattle.engine.specs.declared.act.Act.{Act as CodeAct}
use Rattle.engine.specs.declared.act.Refusal.{Refusal}
use Rattle.engine.specs.declared.act.Refusal.TheVariants.{Misused}

-- a quiet step leaves the row as it is
pub outcome : (s : Step) (a : Result CodeAct Refusal) (m o : List ℕ) → Quiet s a m → Outcome s a m o o
outcome s a m o q = record { memory_is = q.memory_is; act_is = q.act_is; out_is = same s.act q.still }
  where
    same : (x : Act) → quiet x ≡ true → o ≡ out_of x o
    same (read d k) h = refl
    same (write d k p) h = absurd (false≢true h)
    same (shows p) h = absurd (false≢true h)
    same done h = refl
    same (refused k) h = refl

-- a row's front overwritten, and the rest behind it
front : (p o o₁ : List ℕ) → 131072 ≤ length o → length o₁ ≡ 131072 → o₁ ≡ over p (take 131072 o) → o₁ ++ drop 131072 o ≡ over p o
front p o o₁ w l h =
    let t : length (take 131072 o) ≡ 131072 = length-take-le 131072 o w in
    let n : length (over p (take 131072 o)) ≡ 131072 = ap length (sym h) ∙ l in
    let few : length p ≤ length (take 131072 o) = omega (arith, simp (length-append, length-drop) at n, t) in
    ap (λ x. x ++ drop 131072 o) h
    ∙ append_assoc p (drop (length p) (take 131072 o)) (drop 131072 o)
    ∙ ap (λ x. p ++ x) (sym (drop-append-le (length p) (take 131072 o) (drop 131072 o) few) ∙ ap (λ x. drop (length p) x) (take-append-drop 131072 o))

-- what is put into the front of a row leaves the rest as it was
pub widened : (a : Act) (o o₁ : List ℕ) → 131072 ≤ length o → length o₁ ≡ 131072 → o₁ ≡ out_of a (take 131072 o) → o₁ ++ drop 131072 o ≡ out_of a o
widened (read s k) o o₁ w l h = ap (λ x. x ++ drop 131072 o) h ∙ take-append-drop 131072 o
widened (write s k p) o o₁ w l h = front p o o₁ w l h
widened (shows p) o o₁ w l h = front p o o₁ w l h
widened done o o₁ w l h = ap (λ x. x ++ drop 131072 o) h ∙ take-append-drop 131072 o
widened (refused k) o o₁ w l h = ap (λ x. x ++ drop 131072 o) h ∙ take-append-drop 131072 o

module _ (e : Engine) (start : length e.start ≡ 262144) where
  -- where it does not fit
  says_no : (m : List ℕ) (ev : Event) (out : List ℕ) (b : Bool) → b ≡ false → TellSays e m ev out b (Err Misused) m out
  unfolding TellSays
  says_no m ev out true h = absurd (true≢false h)
  says_no m ev out false h = (refl, refl, refl)

  pub not_long : (m : List ℕ) (ev : Event) (out : List ℕ) → (length m ≡ 262144 → ⊥) → TellSays e m ev out (tell_fits e m out) (Err Misused) m out
  unfolding tell_fits
  not_long m ev out h = says_no m ev out _ (simp (start, ne_eqb (length m) 262144 h))

  pub not_out : (m : List ℕ) (ev : Event) (out : List ℕ) → length out < 131072 → TellSays e m ev out (tell_fits e m out) (Err Misused) m out
  unfolding tell_fits
  not_out m ev out h = says_no m ev out _ (and_right (eqb (length m) (length e.start)) _ (lt-leb 131072 (length out) h))

  -- where it fits
  says_yes : (m : List ℕ) (ev : Event) (out : List ℕ) (b : Bool) (t : Result CodeAct Refusal) (m₁ out₁ : List ℕ) → b ≡ true → Outcome (e.step m ev) t m₁ out out₁ → TellSays e m ev out b t m₁ out₁
  unfolding TellSays ActTold
  says_yes m ev out true t m₁ out₁ h o = (o.memory_is, (o.act_is, o.out_is))
  says_yes m ev out false t m₁ out₁ h o = absurd (false≢true h)

  pub tells : (m : List ℕ) (ev : Event) (out : List ℕ) (t : Result CodeAct Refusal) (m₁ out₁ : List ℕ) → length m ≡ 262144 → 131072 ≤ length out → Outcome (e.step m ev) t m₁ out out₁ →
      TellSays e m ev out (tell_fits e m out) t m₁ out₁
  unfolding tell_fits
  tells m ev out t m₁ out₁ l o h = says_yes m ev out _ t m₁ out₁ (simp (start, eq-eqb (length m) 262144 l, le-leb 131072 (length out) o)) h

  -- by a kind and some bytes
  pub not_kind : (m : List ℕ) (k : ℕ) (bs out : List ℕ) → 3 < k → StepSays e m k bs out (step_fits e m k out) (Err Misused) m out
  unfolding StepSays step_fits
  not_kind m k bs out h = says_no m (event_of k bs) out _ (and_right (eqb (length m) (length e.start)) _ (and_left (leb k 3) _ (lt-leb k 3 h)))

  pub steps : (m : List ℕ) (k : ℕ) (bs out : List ℕ) (t : Result CodeAct Refusal) (m₁ out₁ : List ℕ) (ev : Event) → k ≤ 3 → ev ≡ event_of k bs → TellSays e m ev out (tell_fits e m out) t m₁ out₁ →
      StepSays e m k bs out (step_fits e m k out) t m₁ out₁
  unfolding StepSays step_fits tell_fits
  steps m k bs out t m₁ out₁ ev f h s = rw (← h, le-leb k 3 f) s

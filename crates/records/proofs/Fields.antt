-- Each field: what a reader accepts was written so (`-only`), and what was written so it accepts (`-back`), with any rest behind it.
use Rattle.std.proofs.Common.{◌≡◌, ℕ, zero, suc, ◌+◌, ◌-◌, ◌<◌, ◌≤◌, Bool, true, false, cond, List, [], ◌∷◌, ◌++◌, length, get_or, take, drop, Some, None, Option, sym, refl, ap, ◌∙◌, subst, arith}
use Rattle.std.proofs.lemmas.Bool.{lt-ltb, ltb-true, le-leb, leb-true, eq-eqb, eqb-true, and_from, and_parts}
use Rattle.std.proofs.lemmas.List.{append-nil, append_assoc, drop-drop, drop_more, take-append-drop, length-take-le, length-drop, length-append, drop_at, take_at, drop_all}
use Rattle.pages.specs.Bytes.{all_bytes, eight, with_length}
use Rattle.records.specs.declared.command.Part.{Part}
use Rattle.records.specs.Reader.{then, within, number_at, wide, narrow, text, ended, bytes_in}
use Rattle.pages.proofs.ByteLists.{bytes_drop, bytes_take, length_eight, take_eight, from_eight_eight, eight_from_eight}

-- what a step of a chain was
pub record Went {A B : Type 0} (o : Option A) (f : A → Option B) (z : B) : Type 0 where
  pub got : A
  pub was : o ≡ Some got
  pub goes : f got ≡ Some z

pub went : {A B : Type 0} (o : Option A) (f : A → Option B) (z : B) → then o f ≡ Some z → Went o f z
went None f z h = absurd (let no : ◌≡◌ {A = ℕ} 0 1 = cc in omega arith)
went (Some a) f z h = record { got = a; was = refl; goes = h }

pub record Kept {A : Type 0} (b : Bool) (v z : A) : Type 0 where
  pub holds : b ≡ true
  pub is : v ≡ z

pub kept : {A : Type 0} (b : Bool) (v z : A) → cond b (Some v) None ≡ Some z → Kept b v z
kept true v z h = record { holds = refl; is = cc }
kept false v z h = absurd (let no : ◌≡◌ {A = ℕ} 0 1 = cc in omega arith)

-- from a place on, a text has these bytes, up to another place
pub record Spelt (w t : List ℕ) (k j : ℕ) : Type 0 where
  pub here : drop k t ≡ w ++ drop j t

-- one after the other, and to the end
pub onto : {w v t : List ℕ} {k j i : ℕ} → Spelt w t k j → Spelt v t j i → Spelt (w ++ v) t k i
onto {w} {v} {t} {k} {j} {i} a b = record { here = a.here ∙ ap (λ u. w ++ u) b.here ∙ sym (append_assoc w v (drop i t)) }

pub closed : {w t : List ℕ} {k j : ℕ} → Spelt w t k j → drop j t ≡ [] → w ≡ drop k t
closed {w} a e = sym (a.here ∙ ap (λ u. w ++ u) e ∙ append-nil w)

pub record Ranged (lo hi n : ℕ) : Type 0 where
  pub low : lo ≤ n
  pub high : n ≤ hi

pub ranged : (lo hi n : ℕ) → within lo hi n ≡ true → Ranged lo hi n
ranged lo hi n h = let p = and_parts _ _ h in record { low = leb-true lo n p.0; high = leb-true n hi p.1 }

pub in_range : (lo hi n : ℕ) → lo ≤ n → n ≤ hi → within lo hi n ≡ true
in_range lo hi n a b = and_from _ _ (le-leb lo n a) (le-leb n hi b)

-- a place within a text, from what stands there
pub room : (t w r : List ℕ) (k n : ℕ) → drop k t ≡ w ++ r → length w ≡ n → 0 < n → k + n ≤ length t
room t w r k n e l p =
    let a : length (drop k t) ≡ length w + length r = ap length e ∙ length-append w r in
    let b : length t - k ≡ length w + length r = sym (length-drop k t) ∙ a in
    omega arith

pub after : (t w r : List ℕ) (k n : ℕ) → drop k t ≡ w ++ r → length w ≡ n → drop (k + n) t ≡ r
after t w r k n e l = sym (drop-drop n k t) ∙ ap (drop n) e ∙ drop_at w r n l

pub record WideRead (lo hi : ℕ) (t : List ℕ) (k : ℕ) (x : ℕ × ℕ) : Type 0 where
  pub spelt : Spelt (eight x.0) t k x.1
  pub low : lo ≤ x.0
  pub high : x.0 ≤ hi

pub eight_at : (t : List ℕ) (k : ℕ) → all_bytes t ≡ true → k + 8 ≤ length t → drop k t ≡ eight (number_at t k) ++ drop (k + 8) t
unfolding number_at
eight_at t k h l =
    let d : 8 ≤ length (drop k t) = rw (length-drop k t) (omega arith) in
    let e = eight_from_eight (take 8 (drop k t)) (bytes_take 8 (drop k t) (bytes_drop k t h)) (length-take-le 8 (drop k t) d) in
    rw (e, ← (drop-drop 8 k t)) (sym (take-append-drop 8 (drop k t)))

pub wide_only : (lo hi : ℕ) (t : List ℕ) (k : ℕ) (x : ℕ × ℕ) → all_bytes t ≡ true → wide lo hi t k ≡ Some x → WideRead lo hi t k x
unfolding wide
wide_only lo hi t k x h e =
    let c = kept _ _ _ e in
    let p = and_parts _ _ c.holds in
    let q = ranged lo hi (number_at t k) p.1 in
    let all : WideRead lo hi t k (number_at t k, k + 8) =
    record { spelt = record { here = eight_at t k h (leb-true (k + 8) (length t) p.0) }; low = q.low; high = q.high } in
    rw c.is at all

pub record Back {A : Type 0} (o : Option (A × ℕ)) (a : A) (r t : List ℕ) (j : ℕ) : Type 0 where
  pub reads : o ≡ Some (a, j)
  pub rest : drop j t ≡ r
  pub fit : j ≤ length t

pub number_back : (t r : List ℕ) (k a : ℕ) → drop k t ≡ eight a ++ r → a ≤ 18446744073709551615 → number_at t k ≡ a
unfolding number_at
number_back t r k a e h = rw (e, take_eight a r) (from_eight_eight a h)

pub wide_back : (lo hi : ℕ) (t r : List ℕ) (k a : ℕ) → drop k t ≡ eight a ++ r → lo ≤ a → a ≤ hi → hi ≤ 18446744073709551615 →
    Back (wide lo hi t k) a r t (k + 8)
unfolding wide
wide_back lo hi t r k a e l h m =
    let n : number_at t k ≡ a = number_back t r k a e (omega arith) in
    let f : k + 8 ≤ length t = room t (eight a) r k 8 e (length_eight a) (omega arith) in
    record { reads = rw (n, le-leb _ _ f, in_range lo hi a l h); fit = f; rest = after t (eight a) r k 8 e (length_eight a) }

pub record NarrowRead (lo hi : ℕ) (t : List ℕ) (k : ℕ) (x : ℕ × ℕ) : Type 0 where
  pub spelt : Spelt (x.0 ∷ []) t k x.1
  pub low : lo ≤ x.0
  pub high : x.0 ≤ hi

pub narrow_only : (lo hi : ℕ) (t : List ℕ) (k : ℕ) (x : ℕ × ℕ) → narrow lo hi t k ≡ Some x → NarrowRead lo hi t k x
unfolding narrow
narrow_only lo hi t k x e =
    let c = kept _ _ _ e in
    let p = and_parts _ _ c.holds in
    let q = ranged lo hi (get_or t k 0) p.1 in
    let all : NarrowRead lo hi t k (get_or t k 0, k + 1) =
    record { spelt = record { here = drop_more t k 0 (ltb-true k (length t) p.0) }; low = q.low; high = q.high } in
    rw c.is at all

byte_back : (t r : List ℕ) (k a : ℕ) → drop k t ≡ a ∷ r → get_or t k 0 ≡ a
byte_back [] r zero a e = absurd (let l : ◌≡◌ {A = ℕ} 0 (suc (length r)) = ap length e in omega arith)
byte_back [] r (suc k) a e = absurd (let l : ◌≡◌ {A = ℕ} 0 (suc (length r)) = ap length e in omega arith)
byte_back (b ∷ t) r zero a e = cc
byte_back (b ∷ t) r (suc k) a e = byte_back t r k a e

pub narrow_back : (lo hi : ℕ) (t r : List ℕ) (k a : ℕ) → drop k t ≡ a ∷ r → lo ≤ a → a ≤ hi → Back (narrow lo hi t k) a r t (k + 1)
unfolding narrow
narrow_back lo hi t r k a e l h =
    let n : get_or t k 0 ≡ a = byte_back t r k a e in
    let s : k + 1 ≤ length t = room t (a ∷ []) r k 1 e refl (omega arith) in
    record { reads = rw (n, lt-ltb k (length t) (omega arith), in_range lo hi a l h); fit = s; rest = after t (a ∷ []) r k 1 e refl }

-- the end
pub ended_only : {A : Type 0} (t : List ℕ) (k : ℕ) (x z : A) → ended t k x ≡ Some z → (drop k t ≡ []) × (x ≡ z)
ended_only t k x z e = let c = kept _ _ _ e in (drop_all k t (let q = eqb-true k (length t) c.holds in omega arith), c.is)

pub ended_back : {A : Type 0} (t : List ℕ) (k : ℕ) (x : A) → drop k t ≡ [] → k ≤ length t → ended t k x ≡ Some x
ended_back t k x e f = let a : length t - k ≡ 0 = sym (length-drop k t) ∙ ap length e in rw (eq-eqb k (length t) (omega arith))

pub record TextRead (few most : ℕ) (t : List ℕ) (k : ℕ) (x : Part × ℕ) : Type 0 where
  pub spelt : Spelt (with_length (bytes_in t x.0)) t k x.1
  pub few_least : few ≤ length (bytes_in t x.0)
  pub most_at : length (bytes_in t x.0) ≤ most
  pub bytes : all_bytes (bytes_in t x.0) ≡ true

pub text_only : (few most : ℕ) (t : List ℕ) (k : ℕ) (x : Part × ℕ) → all_bytes t ≡ true → text few most t k ≡ Some x → TextRead few most t k x
unfolding text
text_only few most t k x h e =
    let g = went _ _ _ e in
    let n = g.got in
    let w = wide_only few most t k n h g.was in
    let c = kept _ _ _ g.goes in
    let l : n.1 + n.0 ≤ length t = leb-true _ _ c.holds in
    let d : length (take n.0 (drop n.1 t)) ≡ n.0 = length-take-le n.0 (drop n.1 t) (rw (length-drop n.1 t) (omega arith)) in
    let a : drop n.1 t ≡ take n.0 (drop n.1 t) ++ drop (n.1 + n.0) t = rw (← (drop-drop n.0 n.1 t)) (sym (take-append-drop n.0 (drop n.1 t))) in
    let all : TextRead few most t k (record { start = n.1; count = n.0 }, n.1 + n.0) =
    record {
      spelt = subst (λ m. Spelt (eight m ++ take n.0 (drop n.1 t)) t k (n.1 + n.0)) (sym d) (onto w.spelt (record { here = a }));
      few_least = rw d w.low;
      most_at = rw d w.high;
      bytes = bytes_take n.0 _ (bytes_drop n.1 t h);
    } in
    rw c.is at all

pub record TextBack (o : Option (Part × ℕ)) (b r t : List ℕ) : Type 0 where
  pub part : Part
  pub next : ℕ
  pub reads : o ≡ Some (part, next)
  pub rest : drop next t ≡ r
  pub fit : next ≤ length t
  pub holds : bytes_in t part ≡ b

pub text_back : (few most : ℕ) (t r b : List ℕ) (k : ℕ) → drop k t ≡ eight (length b) ++ (b ++ r) → few ≤ length b → length b ≤ most → most ≤ 18446744073709551615 →
    TextBack (text few most t k) b r t
unfolding text
text_back few most t r b k e l h m =
    let w = wide_back few most t (b ++ r) k (length b) e l h m in
    let d : drop (k + 8 + length b) t ≡ r = after t b r (k + 8) (length b) w.rest refl in
    let s : k + 8 + length b ≤ length t = (fit_in t b r (k + 8) w.rest (room t (eight (length b)) (b ++ r) k 8 e (length_eight (length b)) (omega arith))) in
    record { part = record { start = k + 8; count = length b }; next = k + 8 + length b; reads = rw (w.reads, le-leb _ _ s); rest = d; fit = s; holds = rw w.rest (take_at b r (length b) refl) }
  where
    fit_in : (t b r : List ℕ) (k : ℕ) → drop k t ≡ b ++ r → k ≤ length t → k + length b ≤ length t
    fit_in t b r k e h = let a : length t - k ≡ length b + length r = sym (length-drop k t) ∙ ap length e ∙ length-append b r in omega arith

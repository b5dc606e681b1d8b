-- Rising numbers with their count before them.
use Rattle.std.proofs.Common.{◌≡◌, ℕ, zero, suc, ◌+◌, ◌*◌, ◌<◌, ◌≤◌, Bool, true, ◌&&◌, leb, List, [], ◌∷◌, ◌++◌, length, drop, Some, Option, sym, refl, ap, ◌∙◌, subst, arith}
use Rattle.std.proofs.lemmas.Bool.{lt-ltb, ltb-true, le-leb, leb-true, and_from, and_parts}
use Rattle.std.proofs.lemmas.List.{append_assoc}
use Rattle.pages.specs.Lists.{every, flat}
use Rattle.pages.specs.Bytes.{all_bytes, eight}
use Rattle.recurrence.specs.Event.{rising}
use Rattle.records.specs.Command.{numbers}
use Rattle.records.specs.declared.command.Part.{Part}
use Rattle.records.specs.Reader.{within, number_at, climbs, row, numbers_from, numbers_in}
use Rattle.pages.proofs.ByteLists.{length_eight, bytes_append, bytes_eight}
use Rattle.records.proofs.Fields.{Spelt, onto, went, kept, eight_at, ranged, in_range, room, after, number_back, wide_only, wide_back}

-- rising numbers within bounds, as a loop finds them
abbrev pub steps : ℕ → ℕ → List ℕ → Bool
steps lo hi [] = true
steps lo hi (n ∷ ns) = within lo hi n && steps (n + 1) hi ns

pub rising_from : (P : ℕ → Bool) (hi : ℕ) → ((n : ℕ) → P n ≡ true → n ≤ hi) → (lo : ℕ) (n : ℕ) (ns : List ℕ) → lo ≤ n → rising (n ∷ ns) ≡ true → every P (n ∷ ns) ≡ true → steps lo hi (n ∷ ns) ≡ true
unfolding rising
rising_from P hi f lo n [] l r e = and_from _ _ (in_range lo hi n l (f n (and_parts _ _ e).0)) refl
rising_from P hi f lo n (m ∷ ns) l r e =
    let p = and_parts _ _ r in
    let q = and_parts _ _ e in
    let h : n < m = ltb-true n m p.0 in
    and_from _ _ (in_range lo hi n l (f n q.0)) (rising_from P hi f (n + 1) m ns (omega arith) p.1 q.1)

pub steps_from : (P : ℕ → Bool) (lo hi : ℕ) → ((n : ℕ) → P n ≡ true → lo ≤ n) → ((n : ℕ) → P n ≡ true → n ≤ hi) → (ns : List ℕ) → rising ns ≡ true → every P ns ≡ true → steps lo hi ns ≡ true
steps_from P lo hi g f [] r e = refl
steps_from P lo hi g f (n ∷ ns) r e = rising_from P hi f lo n ns (g n (and_parts _ _ e).0) r e

pub steps_rising : (lo hi : ℕ) (ns : List ℕ) → steps lo hi ns ≡ true → rising ns ≡ true
unfolding rising
steps_rising lo hi [] h = refl
steps_rising lo hi (n ∷ []) h = refl
steps_rising lo hi (n ∷ m ∷ ns) h =
    let p = and_parts _ _ h in
    let q = and_parts _ _ p.1 in
    let l = ranged (n + 1) hi m q.0 in
    let k : n < m = omega arith in
    and_from _ _ (lt-ltb n m k) (steps_rising (n + 1) hi (m ∷ ns) p.1)

pub steps_every : (P : ℕ → Bool) (lo hi : ℕ) → ((n : ℕ) → lo ≤ n → n ≤ hi → P n ≡ true) → (at : ℕ) → lo ≤ at → (ns : List ℕ) → steps at hi ns ≡ true → every P ns ≡ true
steps_every P lo hi f at l [] h = refl
steps_every P lo hi f at l (n ∷ ns) h =
    let p = and_parts _ _ h in
    let q = ranged at hi n p.0 in
    let b = q.low in
    let a = q.high in
    and_from _ _ (f n (omega arith) (omega arith)) (steps_every P lo hi f (n + 1) (omega arith) ns p.1)

-- so there are not too many
pub steps_few : (lo hi : ℕ) (ns : List ℕ) → steps lo hi ns ≡ true → lo ≤ hi + 1 → lo + length ns ≤ hi + 1
steps_few lo hi [] h l = omega arith
steps_few lo hi (n ∷ ns) h l =
    let p = and_parts _ _ h in
    let q = ranged lo hi n p.0 in
    let a = q.low in
    let b = q.high in
    let r : n + 1 + length ns ≤ hi + 1 = steps_few (n + 1) hi ns p.1 (omega arith) in
    omega arith

pub length_numbers_from : (n : ℕ) (t : List ℕ) (k : ℕ) → length (numbers_from n t k) ≡ n
unfolding numbers_from
length_numbers_from zero t k = refl
length_numbers_from (suc n) t k = ap suc (length_numbers_from n t (k + 8))

pub climbs_steps : (n lo hi : ℕ) (t : List ℕ) (k : ℕ) → climbs n lo hi t k ≡ steps lo hi (numbers_from n t k)
unfolding climbs numbers_from
climbs_steps zero lo hi t k = refl
climbs_steps (suc n) lo hi t k = ap (λ b. within lo hi (number_at t k) && b) (climbs_steps n (number_at t k + 1) hi t (k + 8))

pub row_spelt : (n : ℕ) (t : List ℕ) (k : ℕ) → all_bytes t ≡ true → k + 8 * n ≤ length t → drop k t ≡ flat eight (numbers_from n t k) ++ drop (k + 8 * n) t
unfolding numbers_from
row_spelt zero t k h l = ap (λ j. drop j t) (omega arith)
row_spelt (suc n) t k h l =
    let i : drop (k + 8) t ≡ flat eight (numbers_from n t (k + 8)) ++ drop (k + 8 + 8 * n) t = row_spelt n t (k + 8) h (omega arith) in
    let e : k + 8 + 8 * n ≡ k + 8 * suc n = omega arith in
    let a : drop k t ≡ eight (number_at t k) ++ drop (k + 8) t = eight_at t k h (omega arith) in
    a ∙ ap (λ u. eight (number_at t k) ++ u) i ∙ sym (append_assoc (eight (number_at t k)) (flat eight (numbers_from n t (k + 8))) (drop (k + 8 + 8 * n) t))
    ∙ ap (λ j. eight (number_at t k) ++ flat eight (numbers_from n t (k + 8)) ++ drop j t) e

pub record RowRead (few most lo hi : ℕ) (t : List ℕ) (k : ℕ) (x : Part × ℕ) : Type 0 where
  pub spelt : Spelt (numbers (numbers_in t x.0)) t k x.1
  pub few_least : few ≤ length (numbers_in t x.0)
  pub most_at : length (numbers_in t x.0) ≤ most
  pub rise : steps lo hi (numbers_in t x.0) ≡ true

pub row_only : (few most lo hi : ℕ) (t : List ℕ) (k : ℕ) (x : Part × ℕ) → all_bytes t ≡ true → row few most lo hi t k ≡ Some x → RowRead few most lo hi t k x
unfolding row
row_only few most lo hi t k x h e =
    let g = went _ _ _ e in
    let n = g.got in
    let w = wide_only few most t k n h g.was in
    let c = kept _ _ _ g.goes in
    let p = and_parts _ _ c.holds in
    let l : n.1 + 8 * n.0 ≤ length t = leb-true _ _ p.0 in
    let ns : List ℕ = numbers_from n.0 t n.1 in
    let d : length (numbers_from n.0 t n.1) ≡ n.0 = length_numbers_from n.0 t n.1 in
    let a = row_spelt n.0 t n.1 h l in
    let all : RowRead few most lo hi t k (record { start = n.1; count = n.0 }, n.1 + 8 * n.0) =
    record {
      spelt = subst (λ m. Spelt (eight m ++ flat eight ns) t k (n.1 + 8 * n.0)) (sym d) (onto w.spelt (record { here = a }));
      few_least = rw d w.low;
      most_at = rw d w.high;
      rise = sym (climbs_steps n.0 lo hi t n.1) ∙ p.1;
    } in
    rw c.is at all

-- back
pub record RowBack (o : Option (Part × ℕ)) (ns r t : List ℕ) : Type 0 where
  pub part : Part
  pub next : ℕ
  pub reads : o ≡ Some (part, next)
  pub rest : drop next t ≡ r
  pub fit : next ≤ length t
  pub holds : numbers_in t part ≡ ns

pub record RowsThere (ns r t : List ℕ) (k : ℕ) : Type 0 where
  pub holds : numbers_from (length ns) t k ≡ ns
  pub rest : drop (k + 8 * length ns) t ≡ r
  pub fit : k + 8 * length ns ≤ length t

pub rows_there : (lo hi : ℕ) (ns r t : List ℕ) (k : ℕ) → drop k t ≡ flat eight ns ++ r → k ≤ length t → steps lo hi ns ≡ true → hi ≤ 18446744073709551615 → RowsThere ns r t k
unfolding numbers_from
rows_there lo hi [] r t k e l s m = record { holds = refl; rest = ap (λ j. drop j t) (omega arith) ∙ e; fit = omega arith }
rows_there lo hi (n ∷ ns) r t k e l s m =
    let p = and_parts _ _ s in
    let q = ranged lo hi n p.0 in
    let b = q.high in
    let e1 : drop k t ≡ eight n ++ (flat eight ns ++ r) = e ∙ append_assoc (eight n) (flat eight ns) r in
    let v : number_at t k ≡ n = number_back t (flat eight ns ++ r) k n e1 (omega arith) in
    let i = rows_there (n + 1) hi ns r t (k + 8) (after t (eight n) (flat eight ns ++ r) k 8 e1 (length_eight n)) (room t (eight n) (flat eight ns ++ r) k 8 e1 (length_eight n) (omega arith)) p.1 m in
    let f = i.fit in
    let j : k + 8 * suc (length ns) ≡ k + 8 + 8 * length ns = omega arith in
    record { holds = rw (v, i.holds); rest = rw j i.rest; fit = omega arith }

pub row_back : (few most lo hi : ℕ) (t r ns : List ℕ) (k : ℕ) → drop k t ≡ numbers ns ++ r → few ≤ length ns → length ns ≤ most → most ≤ 18446744073709551615 → hi ≤ 18446744073709551615 → steps lo hi ns ≡ true →
    RowBack (row few most lo hi t k) ns r t
unfolding row
row_back few most lo hi t r ns k e l h m z s =
    let e1 : drop k t ≡ eight (length ns) ++ (flat eight ns ++ r) = e ∙ append_assoc (eight (length ns)) (flat eight ns) r in
    let w = wide_back few most t (flat eight ns ++ r) k (length ns) e1 l h m in
    let v = rows_there lo hi ns r t (k + 8) w.rest (room t (eight (length ns)) (flat eight ns ++ r) k 8 e1 (length_eight (length ns)) (omega arith)) s z in
    let a : leb (k + 8 + 8 * length ns) (length t) ≡ true = le-leb _ _ v.fit in
    let b : climbs (length ns) lo hi t (k + 8) ≡ true = climbs_steps (length ns) lo hi t (k + 8) ∙ rw v.holds s in
    record { part = record { start = k + 8; count = length ns }; next = k + 8 + 8 * length ns; reads = rw (w.reads, a, b); rest = v.rest; fit = v.fit; holds = v.holds }

pub bytes_numbers : (ns : List ℕ) → all_bytes (flat eight ns) ≡ true
bytes_numbers [] = refl
bytes_numbers (n ∷ ns) = bytes_append (eight n) (flat eight ns) (bytes_eight n) (bytes_numbers ns)

-- What was found lies within the text.
use Rattle.std.proofs.Common.{◌≡◌, ℕ, ◌+◌, ◌-◌, ◌*◌, ◌/◌, ◌<◌, ◌≤◌, min, Bool, true, false, cond, ◌&&◌, leb, List, length, take, drop, Some, None, Option, refl, ap, ◌∙◌, subst, mul_comm, arith, length-drop}
use Rattle.std.proofs.lemmas.List.{drop_min, take_min}
use Rattle.std.proofs.lemmas.Bool.{leb-true, le-leb, lt-leb, and_parts}
use Rattle.std.proofs.lemmas.Nat.{mul-le}
use Rattle.std.proofs.Math.Nat.{div-lt_iff_lt-mul, div-mul-le_self}
use Rattle.records.specs.declared.command.Part.{Part}
use Rattle.records.specs.Reader.{climbs, part, row, text, then, wide}
use Rattle.records.proofs.Fields.{went, kept}

pub row_inside : (few most lo hi : ℕ) (t : List ℕ) (k : ℕ) (x : Part × ℕ) → row few most lo hi t k ≡ Some x → x.0.start + 8 * x.0.count ≤ length t
unfolding row
row_inside few most lo hi t k x e =
    let g = went _ _ _ e in
    let n : wide few most t k ≡ Some g.got = g.was in
    let c = kept _ _ _ g.goes in
    let room : g.got.1 + 8 * g.got.0 ≤ length t = leb-true _ _ (and_parts _ _ c.holds).0 in
    subst (λ (y : Part × ℕ). y.0.start + 8 * y.0.count ≤ length t) c.is room

-- a part is none where its count is none, or where it is too long; text and rows of numbers are parts
pub part_over : (w few most : ℕ) (t : List ℕ) (k n s : ℕ) → wide few most t k ≡ Some (n, s) → length t < s + w * n → part w few most t k ≡ None
unfolding part
part_over w few most t k n s e h = rw (e, lt-leb _ _ h) refl

pub part_fits : (w few most : ℕ) (t : List ℕ) (k n s : ℕ) → wide few most t k ≡ Some (n, s) → s + w * n ≤ length t → part w few most t k ≡ Some (record { start = s; count = n }, s + w * n)
unfolding part
part_fits w few most t k n s e h = rw (e, le-leb _ _ h) refl

-- pieces of a width, and bytes, from their count and the place behind it
abbrev pieces : ℕ → ℕ × ℕ → Part × ℕ
pieces w n = (record { start = n.1; count = n.0 }, n.1 + w * n.0)

abbrev bytes : ℕ × ℕ → Part × ℕ
bytes n = (record { start = n.1; count = n.0 }, n.1 + n.0)

pub text_part : (few most : ℕ) (t : List ℕ) (k : ℕ) → part 1 few most t k ≡ text few most t k
unfolding part text
text_part few most t k = go (wide few most t k)
  where
    go : (o : Option (ℕ × ℕ)) → then o (λ n. cond (leb (n.1 + 1 * n.0) (length t)) (Some (pieces 1 n)) None) ≡ then o (λ n. cond (leb (n.1 + n.0) (length t)) (Some (bytes n)) None)
    go None = refl
    go (Some n) = let e : 1 * n.0 ≡ n.0 = omega arith in rw e refl

row_of : (few most lo hi : ℕ) (t : List ℕ) (k : ℕ) (n : ℕ × ℕ) → wide few most t k ≡ Some n → leb (n.1 + 8 * n.0) (length t) ≡ true → row few most lo hi t k ≡ cond (climbs n.0 lo hi t n.1) (Some (pieces 8 n)) None
unfolding row
row_of few most lo hi t k n e h = rw (e, h) refl

pub row_part : (few most lo hi : ℕ) (t : List ℕ) (k : ℕ) (p : Part × ℕ) → part 8 few most t k ≡ Some p → row few most lo hi t k ≡ cond (climbs p.0.count lo hi t p.0.start) (Some p) None
unfolding part
row_part few most lo hi t k p e =
    let g = went _ _ _ e in
    let c = kept _ _ _ g.goes in
    subst (λ (y : Part × ℕ). row few most lo hi t k ≡ cond (climbs y.0.count lo hi t y.0.start) (Some y) None) c.is (row_of few most lo hi t k g.got g.was c.holds)

pub row_none : (few most lo hi : ℕ) (t : List ℕ) (k : ℕ) → part 8 few most t k ≡ None → row few most lo hi t k ≡ None
unfolding part row
row_none few most lo hi t k e = go (wide few most t k) e
  where
    none : (b d : Bool) (x y : Part × ℕ) → cond b (Some x) None ≡ None → cond (b && d) (Some y) None ≡ None
    none true d x y e = absurd (let no : ◌≡◌ {A = ℕ} 0 1 = cc in omega arith)
    none false d x y e = refl

    go : (o : Option (ℕ × ℕ)) → then o (λ n. cond (leb (n.1 + 8 * n.0) (length t)) (Some (pieces 8 n)) None) ≡ None →
        then o (λ n. cond (leb (n.1 + 8 * n.0) (length t) && climbs n.0 lo hi t n.1) (Some (pieces 8 n)) None) ≡ None
    go None q = refl
    go (Some n) q = none _ _ _ (pieces 8 n) q

-- so many pieces of a width are too many for what is left of a text, or fit
pub too_many : (len s w n : ℕ) → 0 < w → (len - s) / w < n → len < s + w * n
too_many len s w n p h = let q = (div-lt_iff_lt-mul {k = w} {x = len - s} {y = n} p).0 h in let m = mul_comm n w in omega arith

pub room_for : (len s w n : ℕ) → 0 < w → s ≤ len → n ≤ (len - s) / w → s + w * n ≤ len
room_for len s w n p l h = let q = div-mul-le_self (len - s) w in let m = mul-le n w ((len - s) / w) w h (omega arith) in let r = mul_comm n w in omega arith

-- a part of a text, cut at its end
pub part_cut : (t : List ℕ) (s k f n j : ℕ) → f ≡ min s (length t) → n ≡ min k (length t - f) → j ≡ n → take j (drop f t) ≡ take k (drop s t)
part_cut t s k f n j e h q =
    let l : n ≡ min k (length (drop f t)) = simp length-drop (omega arith) in
    ap (λ i. take i (drop f t)) (q ∙ l) ∙ take_min k (drop f t) ∙ ap (take k) (ap (λ i. drop i t) e ∙ drop_min s t)

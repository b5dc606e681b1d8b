-- Numbers of eight bytes, one behind the other: found one more at a time, in a part of a text as in the text.
use Rattle.std.proofs.Common.{◌≡◌, ℕ, zero, suc, ◌+◌, ◌-◌, ◌*◌, ◌/◌, ◌<◌, ◌≤◌, true, false, ◌&&◌, List, [], length, get_or, take, drop, refl, ap, ◌∙◌, arith, length-drop}
use Rattle.std.specs.Simd.{first_chunks}
use Rattle.std.proofs.lemmas.Bool.{le-leb, lt-leb}
use Rattle.std.proofs.lemmas.List.{drop-drop, drop-take, length-take-le, take-take}
use Rattle.pages.specs.Bytes.{from_eight}
use Rattle.recurrence.specs.Week.{with_day}
use Rattle.recurrence.specs.declared.event.Weekdays.{Weekdays}
use Rattle.records.specs.Reader.{climbs, marks, number_at, within}

-- the eight bytes at a place
chunk_at : (i n : ℕ) (t : List ℕ) → i < n → get_or (first_chunks 8 n t) i [] ≡ take 8 (drop (8 * i) t)
chunk_at i zero t h = absurd (omega arith)
chunk_at zero (suc n) t h = refl
chunk_at (suc i) (suc n) t h =
    let e : 8 + 8 * i ≡ 8 * suc i = omega arith in
    chunk_at i n (drop 8 t) (omega arith) ∙ ap (take 8) (drop-drop (8 * i) 8 t ∙ ap (λ k. drop k t) e)

pub number_of_chunk : (items : List (List ℕ)) (n i m : ℕ) (t : List ℕ) → items ≡ first_chunks 8 n t → i < n → m ≡ from_eight 0 (take 8 (get_or items i [])) → m ≡ number_at t (8 * i)
unfolding number_at
number_of_chunk items n i m t e h q =
    q ∙ ap (λ c. from_eight 0 (take 8 c)) (ap (λ cs. get_or cs i []) e ∙ chunk_at i n t h) ∙ ap (from_eight 0) (take-take 8 8 (drop (8 * i) t) (omega arith))

-- rising numbers, one more at a time
pub climbs_more : (c i lo hi : ℕ) (t : List ℕ) (s : ℕ) → i < c → lo ≤ number_at t (s + 8 * i) → number_at t (s + 8 * i) ≤ hi →
    climbs (c - (i + 1)) (number_at t (s + 8 * i) + 1) hi t (s + 8 * (i + 1)) ≡ climbs (c - i) lo hi t (s + 8 * i)
unfolding climbs
climbs_more c i lo hi t s h a b =
    let e : c - i ≡ suc (c - (i + 1)) = omega arith in
    let p : s + 8 * (i + 1) ≡ s + 8 * i + 8 = omega arith in
    rw (e, p, le-leb _ _ a, le-leb _ _ b)

pub climbs_low : (c i lo hi : ℕ) (t : List ℕ) (s : ℕ) → i < c → number_at t (s + 8 * i) < lo → climbs (c - i) lo hi t (s + 8 * i) ≡ false
unfolding climbs
climbs_low c i lo hi t s h a = let e : c - i ≡ suc (c - (i + 1)) = omega arith in rw (e, lt-leb _ _ a)

pub climbs_high : (c i lo hi : ℕ) (t : List ℕ) (s : ℕ) → i < c → lo ≤ number_at t (s + 8 * i) → hi < number_at t (s + 8 * i) → climbs (c - i) lo hi t (s + 8 * i) ≡ false
unfolding climbs
climbs_high c i lo hi t s h b a = let e : c - i ≡ suc (c - (i + 1)) = omega arith in rw (e, le-leb _ _ b, lt-leb _ _ a)

-- and from the front of a text, by the number that is read there
pub front_more : (c i lo hi n : ℕ) (t : List ℕ) → i < c → n ≡ number_at t (8 * i) → lo ≤ n → n ≤ hi → climbs (c - (i + 1)) (n + 1) hi t (8 * (i + 1)) ≡ climbs (c - i) lo hi t (8 * i)
front_more c i lo hi n t h q a b =
    let z : 0 + 8 * i ≡ 8 * i = omega arith in
    let y : 0 + 8 * (i + 1) ≡ 8 * (i + 1) = omega arith in
    rw q (rw (z, y) at (climbs_more c i lo hi t 0 h (rw (z, ← q) a) (rw (z, ← q) b)))

pub front_low : (c i lo hi n : ℕ) (t : List ℕ) → i < c → n ≡ number_at t (8 * i) → n < lo → climbs (c - i) lo hi t (8 * i) ≡ false
front_low c i lo hi n t h q a = let z : 0 + 8 * i ≡ 8 * i = omega arith in rw z at (climbs_low c i lo hi t 0 h (rw (z, ← q) a))

pub front_high : (c i lo hi n : ℕ) (t : List ℕ) → i < c → n ≡ number_at t (8 * i) → lo ≤ n → hi < n → climbs (c - i) lo hi t (8 * i) ≡ false
front_high c i lo hi n t h q b a = let z : 0 + 8 * i ≡ 8 * i = omega arith in rw z at (climbs_high c i lo hi t 0 h (rw (z, ← q) b) (rw (z, ← q) a))

pub climbs_all : (c i lo hi : ℕ) (t : List ℕ) (k : ℕ) → c ≤ i → climbs (c - i) lo hi t k ≡ true
unfolding climbs
climbs_all c i lo hi t k h = let e : c - i ≡ 0 = omega arith in rw e

-- weekdays named by numbers, one more at a time
pub marks_more : (c i : ℕ) (t : List ℕ) (s : ℕ) (on : Weekdays) → i < c → marks (c - (i + 1)) t (s + 8 * (i + 1)) (with_day (number_at t (s + 8 * i)) on) ≡ marks (c - i) t (s + 8 * i) on
unfolding marks
marks_more c i t s on h =
    let e : c - i ≡ suc (c - (i + 1)) = omega arith in
    let p : s + 8 * (i + 1) ≡ s + 8 * i + 8 = omega arith in
    rw (e, p)

pub front_marks : (c i n : ℕ) (t : List ℕ) (on : Weekdays) → i < c → n ≡ number_at t (8 * i) → marks (c - (i + 1)) t (8 * (i + 1)) (with_day n on) ≡ marks (c - i) t (8 * i) on
front_marks c i n t on h q =
    let z : 0 + 8 * i ≡ 8 * i = omega arith in
    let y : 0 + 8 * (i + 1) ≡ 8 * (i + 1) = omega arith in
    rw q (rw (z, y) at (marks_more c i t 0 on h))

pub marks_all : (c i : ℕ) (t : List ℕ) (k : ℕ) (on : Weekdays) → c ≤ i → marks (c - i) t k on ≡ on
unfolding marks
marks_all c i t k on h = let e : c - i ≡ 0 = omega arith in rw e

-- a part of a text
number_cut : (t : List ℕ) (s m k : ℕ) → k + 8 ≤ m → number_at (take m (drop s t)) k ≡ number_at t (s + k)
unfolding number_at
number_cut t s m k h =
    let e : m ≡ k + (m - k) = omega arith in
    ap (from_eight 0)
    (ap (λ j. take 8 (drop k (take j (drop s t)))) e ∙ ap (take 8) (drop-take k (m - k) (drop s t)) ∙ take-take 8 (m - k) (drop k (drop s t)) (omega arith) ∙ ap (take 8) (drop-drop k s t))

climbs_cut_from : (n lo hi : ℕ) (t : List ℕ) (s m k : ℕ) → k + 8 * n ≤ m → climbs n lo hi (take m (drop s t)) k ≡ climbs n lo hi t (s + k)
unfolding climbs
climbs_cut_from zero lo hi t s m k h = refl
climbs_cut_from (suc n) lo hi t s m k h =
    let e : s + (k + 8) ≡ s + k + 8 = omega arith in
    let v = number_cut t s m k (omega arith) in
    rw v
    (ap (λ b. within lo hi (number_at t (s + k)) && b) (climbs_cut_from n (number_at t (s + k) + 1) hi t s m (k + 8) (omega arith) ∙ ap (climbs n (number_at t (s + k) + 1) hi t) e))

marks_cut_from : (n : ℕ) (t : List ℕ) (s m k : ℕ) (on : Weekdays) → k + 8 * n ≤ m → marks n (take m (drop s t)) k on ≡ marks n t (s + k) on
unfolding marks
marks_cut_from zero t s m k on h = refl
marks_cut_from (suc n) t s m k on h =
    let e : s + (k + 8) ≡ s + k + 8 = omega arith in
    let v = number_cut t s m k (omega arith) in
    rw v (marks_cut_from n t s m (k + 8) (with_day (number_at t (s + k)) on) (omega arith) ∙ ap (λ j. marks n t j (with_day (number_at t (s + k)) on)) e)

-- so many numbers between two places
many : (c s e : ℕ) (t : List ℕ) → e ≡ s + 8 * c → e ≤ length t → length (take (e - s) (drop s t)) / 8 ≡ c
many c s e t q h =
    let l : length (take (e - s) (drop s t)) ≡ e - s = length-take-le (e - s) (drop s t) (rw (length-drop s t) (omega arith)) in
    omega arith

pub climbs_cut : (c lo hi s e : ℕ) (t : List ℕ) → e ≡ s + 8 * c → e ≤ length t → climbs (length (take (e - s) (drop s t)) / 8) lo hi (take (e - s) (drop s t)) 0 ≡ climbs c lo hi t s
climbs_cut c lo hi s e t q h =
    ap (λ n. climbs n lo hi (take (e - s) (drop s t)) 0) (many c s e t q h) ∙ climbs_cut_from c lo hi t s (e - s) 0 (omega arith) ∙ ap (climbs c lo hi t) (omega arith)

pub marks_cut : (c s e : ℕ) (t : List ℕ) (on : Weekdays) → e ≡ s + 8 * c → e ≤ length t → marks (length (take (e - s) (drop s t)) / 8) (take (e - s) (drop s t)) 0 on ≡ marks c t s on
marks_cut c s e t on q h =
    ap (λ n. marks n (take (e - s) (drop s t)) 0 on) (many c s e t q h) ∙ marks_cut_from c t s (e - s) 0 on (omega arith) ∙ ap (λ j. marks c t j on) (omega arith)

-- The header's bytes: what is written is what is read, a torn write leaves it, and a header written again says the same.
use Rattle.std.proofs.Common.{◌≡◌, ℕ, zero, suc, ◌+◌, ◌*◌, ◌^◌, ◌<◌, ◌≤◌, Bool, true, eqb, ltb, List, [], ◌∷◌, ◌++◌, map, length, get_or, take, drop, sym, refl, ap, ◌∙◌, add-zero, arith, lit<}
use native.Mathlib.Nat.{pow-le-pow_right}
use Rattle.std.proofs.lemmas.Bool.{and_from, and_parts, eq-eqb, lt-ltb, ltb-true}
use borrow.Rule.Slice.PartMut.{put_mid}
use Rattle.std.proofs.lemmas.List.{append_assoc, append-nil, drop_all, drop_at, drop-drop, length-append, length-drop, length-take, length-take-le, take_all, take_at, take-take}
use Rattle.std.specs.Simd.{first_chunks}
use Rattle.pages.specs.Lists.{every, flat}
use Rattle.pages.specs.Bytes.{all_bytes, eight, from_eight, over}
use Rattle.pages.specs.Device.{Page, half, zeros, a_page}
use Rattle.pages.specs.Fields.{number, at}
use Rattle.pages.specs.Store.{head_number, mark, area, count, address, header_page, eights_of, heads_of, Heads}
use Rattle.pages.proofs.ByteByByte.{at_once, byte_more, eight_at_once}
use Rattle.pages.proofs.ByteLists.{bytes_append, bytes_drop, bytes_eight, bytes_take, from_eight_eight, length_eight, take_eight}
use Rattle.pages.proofs.Fields.{length_zeros}
use Rattle.pages.proofs.Over.{length_eights}

-- the numbers behind a first half
behind : (z bs : List ℕ) (i : ℕ) → length z ≡ 256 → at (256 + 8 * i) 8 (z ++ bs) ≡ number 8 (drop (8 * i) bs)
unfolding at
behind z bs i l = ap (number 8) (sym (drop-drop (8 * i) 256 (z ++ bs)) ∙ ap (drop (8 * i)) (drop_at z bs 256 l))

-- A TORN HEADER says what the old one said
pub torn_number : (z p : Page) (i : ℕ) → length z ≡ 512 → head_number (half z p) i ≡ head_number p i
unfolding head_number half at
torn_number z p i l = behind (take 256 z) (drop 256 p) i (length-take-le 256 z (omega arith)) ∙ ap (number 8) (drop-drop (8 * i) 256 p)

pub torn_mark : (z p : Page) → length z ≡ 512 → mark (half z p) ≡ mark p
unfolding mark
torn_mark z p l = rw (torn_number z p 0 l)

pub torn_heads : (z p : Page) (q : Bool) (c : ℕ) (f : ℕ → ℕ) → length z ≡ 512 → Heads p q c f → Heads (half z p) q c f
unfolding mark area count address
torn_heads z p q c f l h =
    record {
      marks = rw (torn_number z p 0 l) h.marks;
      which = rw (torn_number z p 1 l) h.which;
      many = rw (torn_number z p 2 l) h.many;
      names = λ i li. rw (torn_number z p (3 + i) l) (h.names i li);
    }

-- WHAT IS WRITTEN IS READ
number_eight : (v : ℕ) (r : List ℕ) → v < 18446744073709551616 → number 8 (eight v ++ r) ≡ v
unfolding number
number_eight v r h = ap (from_eight 0) (take_eight v r) ∙ from_eight_eight v (omega arith)

flat_number : (ws : List ℕ) (i : ℕ) → i < length ws → get_or ws i 0 < 18446744073709551616 → number 8 (drop (8 * i) (flat eight ws)) ≡ get_or ws i 0
flat_number [] i l h = let no : ⊥ = omega arith in absurd no
flat_number (w ∷ ws) zero l h = number_eight w (flat eight ws) h
flat_number (w ∷ ws) (suc i) l h =
    let e : 8 * suc i ≡ 8 + 8 * i = omega arith in
    ap (number 8) (ap (λ k. drop k (eight w ++ flat eight ws)) e ∙ sym (drop-drop (8 * i) 8 (eight w ++ flat eight ws)) ∙ ap (drop (8 * i)) (drop_at (eight w) (flat eight ws) 8 (length_eight w)))
    ∙ flat_number ws i (omega arith) h

pub header_number : (ws : List ℕ) (i : ℕ) → i < length ws → get_or ws i 0 < 18446744073709551616 → head_number (header_page ws) i ≡ get_or ws i 0
unfolding head_number header_page
header_number ws i l h = behind (zeros 256) (flat eight ws) i (length_zeros 256) ∙ flat_number ws i l h

bytes_zeros : (n : ℕ) → all_bytes (zeros n) ≡ true
unfolding zeros
bytes_zeros zero = refl
bytes_zeros (suc n) = bytes_zeros n

bytes_flat : (ws : List ℕ) → all_bytes (flat eight ws) ≡ true
bytes_flat [] = refl
bytes_flat (w ∷ ws) = bytes_append (eight w) (flat eight ws) (bytes_eight w) (bytes_flat ws)

pub header_a_page : (ws : List ℕ) → length ws ≡ 32 → a_page (header_page ws) ≡ true
unfolding header_page
header_a_page ws l =
    let a = length-append (zeros 256) (flat eight ws) in
    let b = length_eights ws in
    let c = length_zeros 256 in
    and_from _ _ (eq-eqb _ _ (omega arith)) (bytes_append (zeros 256) (flat eight ws) (bytes_zeros 256) (bytes_flat ws))

pub header_heads : (ws : List ℕ) → length ws ≡ 32 → ((i : ℕ) → i < 3 + get_or ws 2 0 → get_or ws i 0 < 18446744073709551616) → get_or ws 0 0 ≡ 1 → get_or ws 2 0 ≤ 29 →
    Heads (header_page ws) (eqb (get_or ws 1 0) 1) (get_or ws 2 0) (λ i. get_or ws (3 + i) 0)
unfolding mark area count address
header_heads ws l h m few =
    record {
      marks = rw (header_number ws 0 (omega arith) (h 0 (omega arith))) (eq-eqb _ _ m);
      which = rw (header_number ws 1 (omega arith) (h 1 (omega arith)));
      many = header_number ws 2 (omega arith) (h 2 (omega arith));
      names = λ i li. header_number ws (3 + i) (omega arith) (h (3 + i) (omega arith));
    }

-- THE NUMBERS OF A HEADER
eights_number : (k : ℕ) (bs : List ℕ) (i : ℕ) → i < k → get_or (eights_of k bs) i 0 ≡ number 8 (drop (8 * i) bs)
unfolding eights_of
eights_number zero bs i l = let no : ⊥ = omega arith in absurd no
eights_number (suc k) bs zero l = refl
eights_number (suc k) bs (suc i) l =
    let e : 8 + 8 * i ≡ 8 * suc i = omega arith in
    eights_number k (drop 8 bs) i (omega arith) ∙ ap (number 8) (drop-drop (8 * i) 8 bs ∙ ap (λ j. drop j bs) e)

pub heads_number : (p : Page) (i : ℕ) → i < 32 → get_or (heads_of p) i 0 ≡ head_number p i
unfolding heads_of head_number at
heads_number p i l = eights_number 32 (drop 256 p) i l ∙ ap (number 8) (drop-drop (8 * i) 256 p)

eights_long : (k : ℕ) (bs : List ℕ) → length (eights_of k bs) ≡ k
unfolding eights_of
eights_long zero bs = refl
eights_long (suc k) bs = ap suc (eights_long k (drop 8 bs))

pub length_heads : (p : Page) → length (heads_of p) ≡ 32
unfolding heads_of
length_heads p = eights_long 32 (drop 256 p)

from_small : (bs : List ℕ) (n i : ℕ) → n < 256 ^ i → all_bytes bs ≡ true → from_eight n bs < 256 ^ (i + length bs)
unfolding from_eight
from_small [] n i h b = rw (add-zero i) h
from_small (x ∷ bs) n i h b =
    let e : i + suc (length bs) ≡ i + 1 + length bs = omega arith in
    let p = and_parts _ _ b in
    rw e (from_small bs (256 * n + x) (i + 1) (byte_more n x i h (ltb-true x 256 p.0)) p.1)

-- eight bytes are a number of 64 bits
pub number_small : (bs : List ℕ) → all_bytes bs ≡ true → number 8 bs < 18446744073709551616
unfolding number
number_small bs h =
    let a = from_small (take 8 bs) 0 0 (lit< tt) (bytes_take 8 bs h) in
    let l = length-take 8 bs in
    let l₁ : 0 + length (take 8 bs) ≤ 8 = omega arith in
    let b = pow-le-pow_right {n = 256} (lit< tt) l₁ in
    omega arith

eights_small : (k : ℕ) (bs : List ℕ) → all_bytes bs ≡ true → every (λ m. ltb m 18446744073709551616) (eights_of k bs) ≡ true
unfolding eights_of
eights_small zero bs h = refl
eights_small (suc k) bs h = and_from _ _ (lt-ltb _ _ (number_small bs h)) (eights_small k (drop 8 bs) (bytes_drop 8 bs h))

each_small : (ws : List ℕ) → every (λ m. ltb m 18446744073709551616) ws ≡ true → (i : ℕ) → get_or ws i 0 < 18446744073709551616
each_small [] h i = lit< tt
each_small (w ∷ ws) h zero = ltb-true _ _ (and_parts _ _ h).0
each_small (w ∷ ws) h (suc i) = each_small ws (and_parts _ _ h).1 i

pub heads_all_small : (p : Page) → a_page p ≡ true → every (λ m. ltb m 18446744073709551616) (heads_of p) ≡ true
unfolding heads_of
heads_all_small p h = eights_small 32 (drop 256 p) (bytes_drop 256 p (and_parts _ _ h).1)

pub heads_small : (p : Page) → a_page p ≡ true → (i : ℕ) → get_or (heads_of p) i 0 < 18446744073709551616
heads_small p h = each_small (heads_of p) (heads_all_small p h)

-- a header read and written again
again_number : (p : Page) → a_page p ≡ true → (i : ℕ) → i < 32 → head_number (header_page (heads_of p)) i ≡ head_number p i
again_number p h i l = let w = length_heads p in header_number (heads_of p) i (omega arith) (heads_small p h i) ∙ heads_number p i l

pub header_again : (p : Page) → a_page p ≡ true → mark p ≡ true → count p ≤ 29 → Heads (header_page (heads_of p)) (area p) (count p) (address p)
unfolding mark area count address
header_again p h m few =
    record {
      marks = rw (again_number p h 0 (lit< tt)) m;
      which = rw (again_number p h 1 (lit< tt));
      many = again_number p h 2 (lit< tt);
      names = λ i li. again_number p h (3 + i) (omega arith);
    }

pub header_again_page : (p : Page) → a_page (header_page (heads_of p)) ≡ true
header_again_page p = header_a_page (heads_of p) (length_heads p)

-- the header of a new store
pub new_marks : mark (header_page (1 ∷ zeros 31)) ≡ true
unfolding mark zeros
new_marks = rw (header_number (1 ∷ zeros 31) 0 (lit< tt) (lit< tt))

pub new_none : count (header_page (1 ∷ zeros 31)) ≡ 0
unfolding count zeros
new_none = header_number (1 ∷ zeros 31) 2 (lit< tt) (lit< tt)

pub new_a_page : a_page (header_page (1 ∷ zeros 31)) ≡ true
unfolding zeros
new_a_page = header_a_page (1 ∷ zeros 31) refl

-- a number of a header, as it is read from its page
pub head_read : (p : Page) (i k n : ℕ) → i < 32 → k ≡ 8 → n ≡ from_eight 0 (take 8 (take k (drop (256 + 8 * i) p))) → n ≡ get_or (heads_of p) i 0
unfolding head_number at number
head_read p i k n l e q =
    q ∙ ap (λ j. from_eight 0 (take 8 (take j (drop (256 + 8 * i) p)))) e ∙ ap (from_eight 0) (take-take 8 8 (drop (256 + 8 * i) p) (omega arith)) ∙ sym (heads_number p i l)

-- all of them at once
eights_at_once : (k : ℕ) (bs : List ℕ) → 8 * k ≤ length bs → map at_once (first_chunks 8 k bs) ≡ eights_of k bs
unfolding eights_of number
eights_at_once zero bs h = refl
eights_at_once (suc k) bs h =
    let l : length (take 8 bs) ≡ 8 = length-take-le 8 bs (omega arith) in
    let d = length-drop 8 bs in
    rw (sym (eight_at_once (take 8 bs) l), eights_at_once k (drop 8 bs) (omega arith))

pub heads_at_once : (p : Page) (cs : List (List ℕ)) (k : ℕ) (old : List ℕ) → length p ≡ 512 → length old ≡ 32 → k ≡ 32 → cs ≡ first_chunks 8 k (take 256 (drop 256 p)) →
    map at_once cs ++ drop (length cs) old ≡ heads_of p
unfolding heads_of
heads_at_once p cs k old l m n e =
    let d : length (drop 256 p) ≡ 256 = rw (length-drop 256 p) (omega arith) in
    let f : cs ≡ first_chunks 8 32 (drop 256 p) = e ∙ rw (n, take_all 256 (drop 256 p) (omega arith)) in
    let g : length cs ≡ 32 = ap length f in
    rw (g, drop_all 32 old (omega arith), append-nil) (ap (map at_once) f ∙ eights_at_once 32 (drop 256 p) (omega arith))

-- a header written over a blank page
zeros_more : (n k : ℕ) → zeros (n + k) ≡ zeros n ++ zeros k
unfolding zeros
zeros_more zero k = ap zeros (omega arith)
zeros_more (suc n) k = ap zeros (let e : suc n + k ≡ suc (n + k) = omega arith in e) ∙ ap (λ z. 0 ∷ z) (zeros_more n k)

pub header_over : (ws out a b : List ℕ) → length ws ≡ 32 → a ≡ over (zeros 512) out → b ≡ over (flat eight ws) (take 256 (drop 256 a)) → put_mid 256 256 a b ≡ over (header_page ws) out
unfolding header_page
header_over ws out a b l e f =
    let z : length (zeros 256) ≡ 256 = length_zeros 256 in
    let w : length (flat eight ws) ≡ 256 = length_eights ws ∙ omega arith in
    let s : a ≡ zeros 256 ++ (zeros 256 ++ drop 512 out) =
    e ∙ ap (λ n. zeros 512 ++ drop n out) (length_zeros 512) ∙ ap (λ q. q ++ drop 512 out) (zeros_more 256 256) ∙ append_assoc (zeros 256) (zeros 256) (drop 512 out) in
    let t : take 256 a ≡ zeros 256 = ap (take 256) s ∙ take_at (zeros 256) _ 256 z in
    let d : drop 256 a ≡ zeros 256 ++ drop 512 out = ap (drop 256) s ∙ drop_at (zeros 256) _ 256 z in
    let u : drop 256 (drop 256 a) ≡ drop 512 out = ap (drop 256) d ∙ drop_at (zeros 256) _ 256 z in
    let o : take 256 (drop 256 a) ≡ zeros 256 = ap (take 256) d ∙ take_at (zeros 256) _ 256 z in
    let g : b ≡ flat eight ws =
    f ∙ ap (λ q. flat eight ws ++ drop (length (flat eight ws)) q) o ∙ ap (λ n. flat eight ws ++ drop n (zeros 256)) w ∙ ap (λ q. flat eight ws ++ q) (drop_all 256 (zeros 256) (omega arith)) ∙ append-nil (flat eight ws) in
    let h : length (zeros 256 ++ flat eight ws) ≡ 512 = length-append (zeros 256) (flat eight ws) ∙ omega arith in
    rw (t, g, u, h) (sym (append_assoc (zeros 256) (flat eight ws) (drop 512 out)))

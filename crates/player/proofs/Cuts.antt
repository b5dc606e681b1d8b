-- What a side's bytes and its pages have to do with each other. Assumes nothing.
use Rattle.std.proofs.Common.{◌≡◌, ℕ, zero, suc, ◌+◌, ◌-◌, ◌*◌, ◌/◌, ◌<◌, ◌≤◌, List, [], ◌∷◌, ◌++◌, length, take, drop, replicate, min, inl, inr, sym, refl, ap, ◌∙◌, append_assoc, arith, length-append, length-drop, take-append-drop, length-take-le}
use borrow.Rule.Slice.PartMut.{put_mid}
use Rattle.std.proofs.lemmas.List.{drop-drop, drop_all, length-take, take_all, take_at, drop_at, drop-append-le, drop-take, take-replicate, drop-replicate, length-replicate}
use Rattle.std.proofs.lemmas.Bool.{cases_lt}
use Rattle.std.proofs.Math.Nat.{min_comm, min-eq_left}
use Rattle.std.proofs.lemmas.Slice.{take-put_mid_below}
use Rattle.pages.specs.Device.{Page, blank, page_at, set_page, zeros}
use Rattle.player.specs.Sides.{cut, front, in_pages}

pub page_in : (n : ℕ) (bs : List ℕ) (k : ℕ) → k < n → page_at (cut n bs) k ≡ take 512 (drop (512 * k) bs)
unfolding cut page_at
page_in zero bs k h = absurd (omega arith)
page_in (suc n) bs zero h = refl
page_in (suc n) bs (suc k) h =
    page_in n (drop 512 bs) k (omega arith) ∙ ap (λ l. take 512 l) (drop-drop (512 * k) 512 bs ∙ ap (λ m. drop m bs) (omega arith))

pub page_past : (n : ℕ) (bs : List ℕ) (k : ℕ) → n ≤ k → page_at (cut n bs) k ≡ []
unfolding cut page_at
page_past zero bs k h = refl
page_past (suc n) bs zero h = absurd (omega arith)
page_past (suc n) bs (suc k) h = page_past n (drop 512 bs) k (omega arith)

pub set_past : (n : ℕ) (bs : List ℕ) (k : ℕ) (p : Page) → n ≤ k → cut n bs ≡ set_page (cut n bs) k p
unfolding cut set_page
set_past zero bs k p h = refl
set_past (suc n) bs zero p h = absurd (omega arith)
set_past (suc n) bs (suc k) p h = ap (λ l. take 512 bs ∷ l) (set_past n (drop 512 bs) k p (omega arith))

-- without the first page
rest_put : (bs : List ℕ) (k : ℕ) (p : Page) → 512 * suc k ≤ length bs → drop 512 (put_mid (512 * suc k) 512 bs p) ≡ put_mid (512 * k) 512 (drop 512 bs) p
rest_put bs k p h =
    drop-append-le 512 (take (512 * suc k) bs) _ (let e = length-take-le (512 * suc k) bs h in omega arith)
    ∙ (λ i. (ap (λ m. drop 512 (take m bs)) twelve ∙ drop-take 512 (512 * k) bs) i ++ (p ++ drop 512 ((ap (λ m. drop m bs) twelve ∙ sym (drop-drop (512 * k) 512 bs)) i)))
  where
    twelve : 512 * suc k ≡ 512 + 512 * k
    twelve = omega arith

pub set_in : (n : ℕ) (bs : List ℕ) (k : ℕ) (p : Page) → k < n → 512 * n ≤ length bs → length p ≡ 512 → cut n (put_mid (512 * k) 512 bs p) ≡ set_page (cut n bs) k p
unfolding cut set_page
set_in zero bs k p h l e = absurd (omega arith)
set_in (suc n) bs zero p h l e = λ i. take_at p (drop 512 bs) 512 e i ∷ cut n (drop_at p (drop 512 bs) 512 e i)
set_in (suc n) bs (suc k) p h l e =
    (λ i. take-put_mid_below (512 * suc k) 512 bs p 512 (omega arith) (omega arith) i ∷ cut n (rest_put bs k p (omega arith) i))
    ∙ ap (λ x. take 512 bs ∷ x) (set_in n (drop 512 bs) k p (omega arith) (simp length-drop (omega arith)) e)

zeros_are : (n : ℕ) → replicate n 0 ≡ zeros n
unfolding zeros
zeros_are zero = refl
zeros_are (suc n) = ap (λ l. 0 ∷ l) (zeros_are n)

pub length_cut : (n : ℕ) (bs : List ℕ) → length (cut n bs) ≡ n
unfolding cut
length_cut zero bs = refl
length_cut (suc n) bs = ap suc (length_cut n (drop 512 bs))

pub cut_zeros : (n m : ℕ) → 512 * n ≤ m → cut n (replicate m 0) ≡ blank n
unfolding cut blank
cut_zeros zero m h = refl
cut_zeros (suc n) m h =
    λ i. (take-replicate 512 m 0 (omega arith) ∙ zeros_are 512) i ∷ (ap (λ l. cut n l) (drop-replicate 512 m 0) ∙ cut_zeros n (m - 512) (omega arith)) i

-- a part of so many bytes from a page's place on, as code takes it
pub part_is : (bs : List ℕ) (k : ℕ) → k < length bs / 512 → take (k * 512 + 512 - k * 512) (drop (k * 512) bs) ≡ page_at (in_pages bs) k
part_is bs k h =
    (λ i. take (five i) (drop (place i) bs)) ∙ sym (page_in (length bs / 512) bs k h)
  where
    five : k * 512 + 512 - k * 512 ≡ 512
    five = omega arith

    place : k * 512 ≡ 512 * k
    place = omega arith

length_put : (a : ℕ) (bs p : List ℕ) → a + 512 ≤ length bs → length p ≡ 512 → length (put_mid a 512 bs p) ≡ length bs
length_put a bs p h e =
    let front = length-take-le a bs (omega arith) in
    simp (length-append, length-drop) (omega arith)

pub put_is : (bs bs₁ : List ℕ) (k : ℕ) (p : Page) → k < length bs / 512 → length p ≡ 512 → bs₁ ≡ put_mid (512 * k) 512 bs p → in_pages bs₁ ≡ set_page (in_pages bs) k p
put_is bs bs₁ k p h e is =
    let long : 512 * (length bs / 512) ≤ length bs = omega arith in
    let fits : 512 * k + 512 ≤ length bs = omega arith in
    ap (λ l. cut (length l / 512) l) is
    ∙ ap (λ n. cut (n / 512) (put_mid (512 * k) 512 bs p)) (length_put (512 * k) bs p fits e)
    ∙ set_in (length bs / 512) bs k p h long e

-- the first bytes are put into their place, and the others stay
rest_of : (n : ℕ) (r : List ℕ) → n ≤ 512 → drop n r ≡ drop n (take 512 r) ++ drop 512 r
rest_of n r h =
    let e : n + (512 - n) ≡ 512 = omega arith in
    sym (take-append-drop (512 - n) (drop n r))
    ∙ (λ i. (sym (drop-take n (512 - n) r) ∙ ap (λ m. drop n (take m r)) e) i ++ (drop-drop (512 - n) n r ∙ ap (λ m. drop m r) e) i)

pub front_is : (n : ℕ) (bs bs₁ : List ℕ) (k : ℕ) (p : Page) → n ≤ 512 → k < length bs / 512 → length p ≡ 512 → bs₁ ≡ put_mid (512 * k) n bs (take n p)
    → in_pages bs₁ ≡ set_page (in_pages bs) k (front n p (page_at (in_pages bs) k))
front_is n bs bs₁ k p few h e is =
    let fits : 512 * k + 512 ≤ length bs = omega arith in
    let rest : length (drop (512 * k) bs) ≡ length bs - 512 * k = length-drop (512 * k) bs in
    let page : length (take 512 (drop (512 * k) bs)) ≡ 512 = length-take-le 512 (drop (512 * k) bs) (omega arith) in
    let old = take 512 (drop (512 * k) bs) in
    let new : length (take n p) ≡ n = length-take-le n p (omega arith) in
    let whole : length (take n p ++ drop n old) ≡ 512 = simp (length-append, length-drop) (omega arith) in
    let same : put_mid (512 * k) n bs (take n p) ≡ put_mid (512 * k) 512 bs (take n p ++ drop n old) =
    ap (λ l. take (512 * k) bs ++ l)
    (ap (λ l. take n p ++ l) (rest_of n (drop (512 * k) bs) few) ∙ sym (append_assoc (take n p) (drop n old) (drop 512 (drop (512 * k) bs)))) in
    put_is bs bs₁ k (take n p ++ drop n old) h whole (is ∙ same)
    ∙ ap (λ l. set_page (in_pages bs) k (take n p ++ drop n l)) (sym (page_in (length bs / 512) bs k h))

pub blank_is : (bs bs₁ : List ℕ) → bs₁ ≡ replicate (length bs) 0 → in_pages bs₁ ≡ blank (length (in_pages bs))
blank_is bs bs₁ is =
    let long : 512 * (length bs / 512) ≤ length bs = omega arith in
    ap (λ l. cut (length l / 512) l) is
    ∙ ap (λ n. cut (n / 512) (replicate (length bs) 0)) (length-replicate (length bs) 0)
    ∙ cut_zeros (length bs / 512) (length bs) long
    ∙ ap blank (sym (length_cut (length bs / 512) bs))

-- no page is longer than a page
pub page_short : (n : ℕ) (bs : List ℕ) (k : ℕ) → length (page_at (cut n bs) k) ≤ 512
unfolding cut page_at
page_short zero bs k = omega arith
page_short (suc n) bs zero = simp length-take (omega arith)
page_short (suc n) bs (suc k) = page_short n (drop 512 bs) k

-- of a page no more can come than the page
pub front_most : (n : ℕ) (p old : Page) → length p ≡ 512 → length old ≤ 512 → front (min n 512) p old ≡ front n p old
front_most n p old h l = elim (cases_lt n 512) [ inl few ↦ ap (λ m. front m p old) (min-eq_left (omega arith)) | inr many ↦ whole (omega arith) ]
  where
    whole : 512 ≤ n → front (min n 512) p old ≡ front n p old
    whole many =
        ap (λ m. front m p old) (min_comm n 512 ∙ min-eq_left many)
        ∙ (λ i. (take_all 512 p (omega arith) ∙ sym (take_all n p (omega arith))) i ++ (drop_all 512 old l ∙ sym (drop_all n old (omega arith))) i)

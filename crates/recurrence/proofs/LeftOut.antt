-- Days looked up in a rising list, and how many of them are left from a day on.
use Rattle.std.proofs.Common.{◌≡◌, ℕ, zero, suc, ◌+◌, ◌<◌, ◌≤◌, true, false, leb, ◌≢◌, List, [], ◌∷◌, length, get_or, Ok, Err, Result, sym, refl, subst, inl, inr, arith}
use Rattle.std.specs.Cmp.{ranks}
use Rattle.std.specs.List.Sorted.{IsBinarySearchResult, IsSearchInRange}
use Rattle.std.specs.Ordering.{MatchOrdering, nat_cmp}
use Rattle.std.specs.Result.{is_ok}
use Rattle.std.proofs.lemmas.List.Sorted.{searched}
use Rattle.std.proofs.lemmas.Bool.Decides.{nat_tests}
use Rattle.std.proofs.lemmas.Bool.{cases_lt, cases_eq, eq-eqb, ne_eqb}
use Rattle.pages.specs.Lists.{those}
use Rattle.recurrence.specs.Event.{has, rising}

pub has_at : (ks : List ℕ) (i x : ℕ) → i < length ks → get_or ks i 0 ≡ x → has ks x ≡ true
has_at [] i x l e = absurd (omega arith)
has_at (k ∷ ks) zero x l e = rw (eq-eqb x k (sym e))
has_at (k ∷ ks) (suc i) x l e = let h = has_at ks i x (omega arith) e in grind (arith, nat_tests)

has_none : (ks : List ℕ) (x : ℕ) → ((i : ℕ) → i < length ks → get_or ks i 0 ≢ x) → has ks x ≡ false
has_none [] x h = refl
has_none (k ∷ ks) x h =
    rw (ne_eqb x k (λ e. h 0 (omega arith) (sym e))) (has_none ks x (λ i l. h (suc i) (omega arith)))

rises_tail : (k : ℕ) (ks : List ℕ) → rising (k ∷ ks) ≡ true → rising ks ≡ true
unfolding rising
rises_tail k [] h = refl
rises_tail k (j ∷ ks) h = grind (arith, nat_tests)

rises_head : (k : ℕ) (ks : List ℕ) (j : ℕ) → rising (k ∷ ks) ≡ true → j < length ks → k ≤ get_or ks j 0
unfolding rising
rises_head k [] j h l = absurd (omega arith)
rises_head k (m ∷ ks) zero h l = grind (arith, nat_tests)
rises_head k (m ∷ ks) (suc j) h l =
    let r : rising (m ∷ ks) ≡ true = grind (arith, nat_tests) in
    let a : k ≤ m = grind (arith, nat_tests) in
    omega (arith, rises_head m ks j r (omega arith))

rises : (ks : List ℕ) → rising ks ≡ true → (i j : ℕ) → i ≤ j → j < length ks → get_or ks i 0 ≤ get_or ks j 0
rises [] h i j l m = absurd (omega arith)
rises (k ∷ ks) h zero zero l m = omega arith
rises (k ∷ ks) h zero (suc j) l m = rises_head k ks j h (omega arith)
rises (k ∷ ks) h (suc i) zero l m = absurd (omega arith)
rises (k ∷ ks) h (suc i) (suc j) l m = rises ks (rises_tail k ks h) i j (omega arith) (omega arith)

-- where a day can still be in a rising list: what is before low is earlier, and what is from high on is later
abbrev pub Between : List ℕ → ℕ → ℕ → ℕ → Type 0
Between ks x low high =
    rising ks ≡ true → ((i : ℕ) → i < low → get_or ks i 0 < x) × ((i : ℕ) → high ≤ i → i < length ks → x < get_or ks i 0)

pub between_above : (ks : List ℕ) (x low high i : ℕ) → Between ks x low high → i < length ks → get_or ks i 0 < x → Between ks x (i + 1) high
between_above ks x low high i h l m r = ((λ j k. omega (arith, rises ks r j i (omega arith) l)), (h r).1)

pub between_below : (ks : List ℕ) (x low high i : ℕ) → Between ks x low high → x < get_or ks i 0 → Between ks x low i
between_below ks x low high i h m r = ((h r).0, λ j k l. omega (arith, rises ks r i j k l))

pub between_none : (ks : List ℕ) (x low high : ℕ) → Between ks x low high → high ≤ low → rising ks ≡ true → has ks x ≡ false
between_none ks x low high h m r =
    has_none ks x (λ i l e. elim (cases_lt i low) [ inl k ↦ absurd (omega (arith, (h r).0 i k)) | inr k ↦ absurd (omega (arith, (h r).1 i (omega arith) l)) ])

-- what a search by halves finds is there, and in a rising list it misses nothing
pub searched_there : (ks : List ℕ) (x : ℕ) (r : Result ℕ ℕ) → IsBinarySearchResult (λ y. nat_cmp y x) ks r → IsSearchInRange r (length ks) → is_ok r ≡ true → has ks x ≡ true
searched_there ks x (Ok i) h b k =
    has_at ks i x b (subst (λ o. MatchOrdering o (get_or ks i 0 < x) (get_or ks i 0 ≡ x) (x < get_or ks i 0)) (h 0) (ranks (get_or ks i 0) x))
searched_there ks x (Err i) h b k = absurd (let no : ◌≡◌ {A = ℕ} 0 1 = cc in omega arith)

pub searched_exact : (ks : List ℕ) (x : ℕ) (r : Result ℕ ℕ) → IsBinarySearchResult (λ y. nat_cmp y x) ks r → IsSearchInRange r (length ks) → rising ks ≡ true → is_ok r ≡ has ks x
searched_exact ks x (Ok i) h b up = sym (searched_there ks x (Ok i) h b refl)
searched_exact ks x (Err i) h b up =
    let s = searched ks x (Err i) h (λ j k l m. rises ks up j k l m) in
    sym (has_none ks x (λ j l e. elim (cases_lt j i) [ inl k ↦ absurd (omega (arith, s.1 j k)) | inr k ↦ absurd (omega (arith, s.2 j k l)) ]))

-- how many of them come on a day or after it
abbrev pub left_from : List ℕ → ℕ → ℕ
left_from ks d = length (those (leb d) ks)

left_less : (ks : List ℕ) (d x : ℕ) → d ≤ x → left_from ks x ≤ left_from ks d
left_less [] d x l = omega arith
left_less (k ∷ ks) d x l = let i = left_less ks d x l in grind (arith, nat_tests)

pub left_fewer : (ks : List ℕ) (d x : ℕ) → d ≤ x → has ks x ≡ true → left_from ks (x + 1) < left_from ks d
left_fewer [] d x l h = absurd (let no : ◌≡◌ {A = ℕ} 0 1 = cc in omega arith)
left_fewer (k ∷ ks) d x l h =
    elim (cases_eq x k) [
      | inl e ↦ (let i = left_less ks d (x + 1) (omega arith) in grind (arith, nat_tests))
      | inr e ↦ (
          let q = ne_eqb x k e in
          let r : has ks x ≡ true = rw q at h in
          let i = left_fewer ks d x l r in
          grind (arith, nat_tests))
    ]

pub left_all : (ks : List ℕ) (d : ℕ) → left_from ks d ≤ length ks
left_all [] d = omega arith
left_all (k ∷ ks) d = let i = left_all ks d in grind (arith, nat_tests)

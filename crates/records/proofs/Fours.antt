-- Places of four bytes read back.
use Rattle.std.proofs.Common.{◌≡◌, ℕ, zero, suc, ◌+◌, ◌*◌, ◌<◌, ◌≤◌, true, List, [], ◌∷◌, length, drop, sym, refl, ap, ◌∙◌, ap₂, arith}
use Rattle.std.proofs.lemmas.List.{drop-drop}
use Rattle.pages.specs.Bytes.{in_bytes, all_bytes}
use Rattle.pages.proofs.Fields.{number_back, drop_in_bytes, length_in_bytes}
use Rattle.pages.proofs.ByteLists.{bytes_in_bytes}
use Rattle.records.specs.Layout.{fours, read_fours}

-- all below a bound
unfoldable pub Below : ℕ → List ℕ → Type 0
Below b [] = Unit
Below b (a ∷ as₁) = (a < b) × Below b as₁

pub fours_back : (m : ℕ) (as₁ r : List ℕ) → length as₁ ≤ m → Below 4294967296 as₁ → read_fours (length as₁) (fours m as₁ r) ≡ as₁
unfolding fours read_fours Below
fours_back m [] r l h = refl
fours_back zero (a ∷ as₁) r l h = let no : ⊥ = omega arith in absurd no
fours_back (suc m) (a ∷ as₁) r l h =
    let p = number_back 4 a (fours m as₁ r) h.0 in
    let q = drop_in_bytes 4 a (fours m as₁ r) in
    let s = fours_back m as₁ r (omega arith) h.1 in
    ap₂ ◌∷◌ p (ap (read_fours (length as₁)) q ∙ s)

pub drop_fours : (m : ℕ) (as₁ r : List ℕ) → drop (4 * m) (fours m as₁ r) ≡ r
unfolding fours
drop_fours zero as₁ r = refl
drop_fours (suc m) [] r = ap (λ k. drop k (in_bytes 4 0 (fours m [] r))) (omega arith) ∙ sym (drop-drop (4 * m) 4 _) ∙ ap (drop (4 * m)) (drop_in_bytes 4 0 (fours m [] r)) ∙ drop_fours m [] r
drop_fours (suc m) (a ∷ as₁) r = ap (λ k. drop k (in_bytes 4 a (fours m as₁ r))) (omega arith) ∙ sym (drop-drop (4 * m) 4 _) ∙ ap (drop (4 * m)) (drop_in_bytes 4 a (fours m as₁ r)) ∙ drop_fours m as₁ r

pub bytes_fours : (m : ℕ) (as₁ r : List ℕ) → all_bytes r ≡ true → all_bytes (fours m as₁ r) ≡ true
unfolding fours
bytes_fours zero as₁ r h = h
bytes_fours (suc m) [] r h = bytes_in_bytes 4 0 (fours m [] r) (bytes_fours m [] r h)
bytes_fours (suc m) (a ∷ as₁) r h = bytes_in_bytes 4 a (fours m as₁ r) (bytes_fours m as₁ r h)

pub length_fours : (m : ℕ) (as₁ r : List ℕ) → length (fours m as₁ r) ≡ 4 * m + length r
unfolding fours
length_fours zero as₁ r = omega arith
length_fours (suc m) [] r = length_in_bytes 4 0 (fours m [] r) ∙ omega (arith, length_fours m [] r)
length_fours (suc m) (a ∷ as₁) r = length_in_bytes 4 a (fours m as₁ r) ∙ omega (arith, length_fours m as₁ r)

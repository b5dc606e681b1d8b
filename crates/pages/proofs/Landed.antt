-- What has landed stays, whatever a stop leaves of a write elsewhere, and whatever becomes of the other side.
use Rattle.std.proofs.Common.{◌≡◌, ℕ, zero, suc, ◌<◌, Bool, true, false, ◌&&◌, eqb, List, sym, refl, true≢false, arith}
use Rattle.std.proofs.lemmas.Bool.{eqb-false}
use Rattle.pages.specs.Lists.{pick}
use Rattle.pages.specs.Device.{Page, two, with_page, read_page, landed, landed_all, left, lost}
use Rattle.pages.specs.Promise.{LandedStays}
use Rattle.pages.proofs.Pages.{page_at_other}

module _ (xs ys : List Page) where
  -- a page written elsewhere
  elsewhere : (s k t j : ℕ) (z : Page) → s < 2 → t < 2 → eqb s t && eqb k j ≡ false → read_page (with_page (two xs ys) t j z) s k ≡ read_page (two xs ys) s k
  unfolding landed_all
  elsewhere zero k zero j z ls lt h = page_at_other xs j k z (λ e. eqb-false k j h (sym e))
  elsewhere zero k (suc zero) j z ls lt h = refl
  elsewhere (suc zero) k zero j z ls lt h = refl
  elsewhere (suc zero) k (suc zero) j z ls lt h = page_at_other ys j k z (λ e. eqb-false k j h (sym e))
  elsewhere (suc (suc s)) k t j z ls lt h = let no : ⊥ = omega arith in absurd no
  elsewhere zero k (suc (suc t)) j z ls lt h = let no : ⊥ = omega arith in absurd no
  elsewhere (suc zero) k (suc (suc t)) j z ls lt h = let no : ⊥ = omega arith in absurd no

  -- all of it, a part of it, or nothing
  some_of_it : (all part : Bool) (s k t j : ℕ) (z z₁ : Page) → s < 2 → t < 2 → eqb s t && eqb k j ≡ false →
      read_page (pick all (with_page (two xs ys) t j z) (pick part (with_page (two xs ys) t j z₁) (two xs ys))) s k ≡ read_page (two xs ys) s k
  some_of_it true part s k t j z z₁ ls lt h = elsewhere s k t j z ls lt h
  some_of_it false true s k t j z z₁ ls lt h = elsewhere s k t j z₁ ls lt h
  some_of_it false false s k t j z z₁ ls lt h = refl

  other_side : (s k t : ℕ) → s < 2 → t < 2 → eqb s t ≡ false → read_page (lost (two xs ys) t) s k ≡ read_page (two xs ys) s k
  unfolding landed_all
  other_side zero k zero ls lt h = absurd (true≢false h)
  other_side zero k (suc zero) ls lt h = refl
  other_side (suc zero) k zero ls lt h = refl
  other_side (suc zero) k (suc zero) ls lt h = absurd (true≢false h)
  other_side (suc (suc s)) k t ls lt h = let no : ⊥ = omega arith in absurd no
  other_side zero k (suc (suc t)) ls lt h = let no : ⊥ = omega arith in absurd no
  other_side (suc zero) k (suc (suc t)) ls lt h = let no : ⊥ = omega arith in absurd no

pub landed_stays : LandedStays
unfolding LandedStays landed_all left
landed_stays d s k t j p c ls lt = (
  λ h. some_of_it (landed d).first (landed d).second (eqb c 1) (eqb c 2) s k t j p _ ls lt h,
  λ h. other_side (landed d).first (landed d).second s k t ls lt h,
)

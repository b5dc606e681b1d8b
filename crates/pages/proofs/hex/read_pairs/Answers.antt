use Rattle.std.proofs.Common.{◌≡◌, ℕ, zero, suc, ◌+◌, ◌*◌, ◌/◌, ◌<◌, ◌≤◌, Bool, true, false, ◌&&◌, List, [], ◌∷◌, ◌++◌, length, get_or, drop, Some, None, Vec, Global, vec_items, Option, sym, refl, ap, ◌∙◌, arith}
use Rattle.std.specs.Bool.{◌==◌, then_some}
use Rattle.std.specs.Option.{option_map}
use Rattle.std.specs.Simd.{first_chunks}
use Rattle.pages.specs.Lists.{pick}
use Rattle.pages.specs.Hex.{digit_value, is_digit, read_onto}
use Rattle.pages.proofs.hex.read_pairs.Goals as goal

-- two digits of a text that is read
abbrev both : List ℕ → Bool
both p = is_digit (get_or p 0 0) && is_digit (get_or p 1 0)

abbrev as_byte : List ℕ → ℕ
as_byte p = 16 * digit_value (get_or p 0 0) + digit_value (get_or p 1 0)

abbrev two_read : List ℕ → List ℕ → List ℕ → Option (List ℕ)
two_read bs p rest = pick (both p) (read_onto (bs ++ as_byte p ∷ []) rest) None

pair_read : (bs t : List ℕ) (i k : ℕ) → i < k → 2 * k ≤ length t → read_onto bs (drop (2 * i) t) ≡ two_read bs (get_or (first_chunks 2 k t) i []) (drop (2 * (i + 1)) t)
unfolding read_onto
pair_read bs t i zero h l = absurd (omega arith)
pair_read bs [] i (suc k) h l = absurd (omega arith)
pair_read bs (a ∷ []) i (suc k) h l = absurd (omega arith)
pair_read bs (a ∷ b ∷ t) zero (suc k) h l = refl
pair_read bs (a ∷ b ∷ t) (suc i) (suc k) h l =
    let e : 2 * suc i ≡ suc (suc (2 * i)) = omega arith in
    let f : 2 * (suc i + 1) ≡ suc (suc (2 * (i + 1))) = omega arith in
    rw (e, f) (pair_read bs t i k (omega arith) (omega arith))

-- what is left is one digit or none
rest_read : (v : Vec ℕ Global) (r : List ℕ) → length r < 2 → option_map vec_items (then_some (length r == 0) v) ≡ read_onto (vec_items v) r
unfolding read_onto
rest_read v [] h = refl
rest_read v (a ∷ []) h = refl
rest_read v (a ∷ b ∷ r) h = absurd (omega arith)

picked : (d : Bool) (x y : ℕ) → Some y ≡ pick d (Some x) None → (d ≡ true) × (y ≡ x)
picked true x y e = (refl, cc)
picked false x y e = absurd cc

unpicked : (d : Bool) (x : ℕ) → None ≡ pick d (Some x) None → d ≡ false
unpicked true x e = absurd cc
unpicked false x e = refl

no_pair : (bs p rest : List ℕ) → None ≡ pick (both p) (Some (as_byte p)) None → None ≡ two_read bs p rest
no_pair bs p rest e = ap (λ d. pick d (read_onto (bs ++ as_byte p ∷ []) rest) None) (sym (unpicked _ _ e))

a_pair : (bs p rest : List ℕ) (b : ℕ) → Some b ≡ pick (both p) (Some (as_byte p)) None → read_onto (bs ++ b ∷ []) rest ≡ two_read bs p rest
a_pair bs p rest b e =
    let s = picked _ _ _ e in
    ap (λ x. read_onto (bs ++ x ∷ []) rest) s.1 ∙ ap (λ d. pick d (read_onto (bs ++ as_byte p ∷ []) rest) None) (sym s.0)

pub returns-in_default : goal.returns-in_default
returns-in_default c =
    let t = c.args.text.now in
    let i = c.loop-high.high-index in
    let bs = vec_items c.loop-high.bytes in
    no_pair bs (get_or c.as_chunks.result.0.now i []) (drop (2 * (i + 1)) t) (sym c.in_default.is ∙ c.byte.ensures)
    ∙ ap (λ ps. two_read bs (get_or ps i []) (drop (2 * (i + 1)) t)) c.as_chunks.ensures.front
    ∙ sym (pair_read bs t i (length t / 2) (omega arith) (omega arith)) ∙ c.loop-high.invariant

pub loop-high-preserved : goal.loop-high-preserved
loop-high-preserved c =
    let t = c.args.text.now in
    let i = c.loop-high.high-index in
    let bs = vec_items c.loop-high.bytes in
    ap (λ x. read_onto x (drop (2 * (i + 1)) t)) c.in_ok-push.ensures.items
    ∙ a_pair bs (get_or c.as_chunks.result.0.now i []) (drop (2 * (i + 1)) t) _ (sym c.in-Some.is ∙ c.byte.ensures)
    ∙ ap (λ ps. two_read bs (get_or ps i []) (drop (2 * (i + 1)) t)) c.as_chunks.ensures.front
    ∙ sym (pair_read bs t i (length t / 2) (omega arith) (omega arith)) ∙ c.loop-high.invariant

pub returns : goal.returns
returns c =
    let t = c.args.text.now in
    let n : length t / 2 * 2 ≡ 2 * c.loop-high.high-index = omega (arith, c.as_chunks.ensures.front_len) in
    let rest = c.as_chunks.ensures.back ∙ ap (λ k. drop k t) n in
    ap (option_map vec_items) (c.then_some.ensures ∙ ap (λ b. then_some b c.loop-high.bytes) c.is_empty.ensures)
    ∙ rest_read c.loop-high.bytes c.as_chunks.result.1.now (omega arith) ∙ ap (read_onto (vec_items c.loop-high.bytes)) rest ∙ c.loop-high.invariant

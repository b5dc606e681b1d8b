-- Bytes put one after the other. Assumes nothing.
use Rattle.std.proofs.Common.{◌≡◌, ℕ, List, [], ◌∷◌, ◌++◌, ap, ◌∙◌, append_assoc, append-nil}

-- one more after those
pub more : (b : List ℕ) {x y z : List ℕ} → x ≡ y → z ≡ x ++ b → z ≡ y ++ b
more b e f = f ∙ ap (λ l. l ++ b) e

-- two numbers behind a command's own, and then an event
pub two_then : (w a b e : List ℕ) (k : ℕ) → (w ++ (k ∷ (a ++ (b ++ [])))) ++ e ≡ w ++ (k ∷ ((a ++ b) ++ e))
two_then w a b e k = append_assoc w (k ∷ (a ++ (b ++ []))) e ∙ ap (λ l. w ++ (k ∷ ((a ++ l) ++ e))) (append-nil b)

parts : (w t f m l r o zs bs : List ℕ)
    → (((((((w ++ t) ++ zs) ++ f) ++ m) ++ l) ++ bs) ++ r) ++ o ≡ w ++ (((((t ++ (zs ++ f)) ++ m) ++ l) ++ (bs ++ r)) ++ o)
parts w t f m l r o zs bs = simp append_assoc

-- an event's parts, put one after the other
pub event_shape : (w t f m l r o : List ℕ) (z b : ℕ)
    → (((((((w ++ t) ++ z ∷ []) ++ f) ++ m) ++ l) ++ b ∷ []) ++ r) ++ o ≡ w ++ (t ++ z ∷ f ++ m ++ l ++ b ∷ r ++ o)
event_shape w t f m l r o z b = parts w t f m l r o (z ∷ []) (b ∷ [])

-- Bytes put one after the other. Assumes nothing.
use Rattle.std.proofs.Common.{◌≡◌, ℕ, List, ◌++◌, ap, ◌∙◌}

-- one more after those
pub more : (b : List ℕ) {x y z : List ℕ} → x ≡ y → z ≡ x ++ b → z ≡ y ++ b
more b e f = f ∙ ap (λ l. l ++ b) e

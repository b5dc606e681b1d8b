use Rattle.std.proofs.Common.{◌≡◌, ℕ, ◌+◌, ◌<◌, List, length, drop, take, get_or, ◌∙◌, arith, rules}
use Rattle.std.proofs.lemmas.List.{get_or-drop, get_or-take, length-take-le, length-drop}
use Rattle.std.proofs.lemmas.Grind.{get_or_default_zero}
use Rattle.pages.proofs.heads.home.Goals as goal

-- an address behind the first three numbers
address_at : (ws : List ℕ) (i d : ℕ) → i < length (take 29 (drop 3 ws)) → length ws ≡ 32 → (i < 29) × (get_or (take 29 (drop 3 ws)) i d ≡ get_or ws (3 + i) 0)
address_at ws i d h l =
    let e : length (take 29 (drop 3 ws)) ≡ 29 = length-take-le 29 _ (rw (length-drop 3 ws) (omega arith)) in
    (omega arith, get_or-take 29 (drop 3 ws) i d (omega arith) ∙ get_or-drop 3 ws i d ∙ get_or_default_zero ws (3 + i) d (omega arith))

pub returns-then-address-lt1048576-clause-is : goal.returns-then-address-lt1048576-clause-is
returns-then-address-lt1048576-clause-is c =
    let k = c.in_ok-address.ensures.lookup in
    let a = address_at c.args.head.now c.args.i _ k.3.0 (omega arith) in
    let e = k.1 ∙ a.1 in
    search rules

pub returns-else-address-lt1048576-clause-is : goal.returns-else-address-lt1048576-clause-is
returns-else-address-lt1048576-clause-is c =
    let k = c.in_ok-address.ensures.lookup in
    let a = address_at c.args.head.now c.args.i _ k.3.0 (omega arith) in
    let e = k.1 ∙ a.1 in
    search rules

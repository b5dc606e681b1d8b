use Rattle.std.proofs.Common.{◌≡◌, ℕ, List, [], ◌∷◌, ◌++◌, length, vec_items, sym, refl, ap, ◌∙◌, append_assoc, append-nil, arith, true-eqb, false-eqb}
use Rattle.std.proofs.lemmas.List.{at_drop_more, at_drop_all}
use Rattle.pages.specs.Hex.{digits, hex}
use Rattle.pages.proofs.hex.write.Goals as goal

hex_none : (bs : List ℕ) → length bs ≡ 0 → hex bs ≡ 45 ∷ []
unfolding hex
hex_none [] e = refl
hex_none (b ∷ bs) e = absurd (omega arith)

hex_some : (bs : List ℕ) → (length bs ≡ 0 → ⊥) → hex bs ≡ digits bs
unfolding hex
hex_some [] e = absurd (e refl)
hex_some (b ∷ bs) e = refl

-- two digits more
two_more : (o o₁ o₂ ds : List ℕ) (h l : ℕ) → o₁ ≡ o ++ h ∷ [] → o₂ ≡ o₁ ++ l ∷ [] → o₂ ++ ds ≡ o ++ (h ∷ l ∷ ds)
two_more o o₁ o₂ ds h l e f = ap (λ x. x ++ ds) (f ∙ ap (λ x. x ++ l ∷ []) e) ∙ append_assoc (o ++ h ∷ []) (l ∷ []) ds ∙ append_assoc o (h ∷ []) (l ∷ ds)

pub returns-then-is_empty : goal.returns-then-is_empty
returns-then-is_empty c =
    c.in_ok-push.ensures.items ∙ ap (λ x. vec_items c.args.out.now ++ x) (sym (hex_none _ (true-eqb _ 0 c.if-is_empty.ensures)))

pub loop-b-preserved : goal.loop-b-preserved
unfolding digits
loop-b-preserved c =
    let more = at_drop_more (λ x. vec_items c.loop-b.out ++ digits x) c.args.bytes.now c.loop-b.b-index 0 c.loop-b-test.true in
    two_more _ _ _ _ _ _
    (c.in_ok-push-2.ensures.items ∙ ap (λ x. vec_items c.loop-b.out ++ x ∷ []) c.digit.ensures)
    (c.in_ok-push-3.ensures.items ∙ ap (λ x. vec_items c.push-in-loop-b.new.self ++ x ∷ []) c.digit-in-loop-b.ensures)
    ∙ sym more ∙ c.loop-b.invariant

pub returns : goal.returns
unfolding digits
returns c =
    let none = at_drop_all (λ x. vec_items c.loop-b.out ++ digits x) c.args.bytes.now c.loop-b.b-index c.loop-b-test.false in
    sym (append-nil _) ∙ sym none ∙ c.loop-b.invariant ∙ ap (λ x. vec_items c.args.out.now ++ x) (sym (hex_some _ (false-eqb _ 0 c.if-is_empty.ensures)))

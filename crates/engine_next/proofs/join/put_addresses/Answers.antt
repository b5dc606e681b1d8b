use Rattle.std.proofs.Common.{◌+◌, ◌/◌, [], ◌∷◌, ◌∙◌, append_assoc, arith}
use Rattle.std.proofs.lemmas.List.Edits.{sets-eq}
use Rattle.pages.specs.Bytes.{placed}
use Rattle.engine_next.specs.Own.{join_head}
use Rattle.engine_next.proofs.join.put_addresses.Goals as goal

pub returns : goal.returns
unfolding join_head placed
returns c = sets-eq (2 ∷ (c.args.people / 4 + 1) ∷ 0 ∷ []) c.args.head.now 2 (omega arith) ∙ append_assoc _ (2 ∷ (c.args.people / 4 + 1) ∷ 0 ∷ []) _

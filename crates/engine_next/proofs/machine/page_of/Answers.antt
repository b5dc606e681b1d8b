use Rattle.std.proofs.Common.{arith}
use Rattle.std.proofs.lemmas.Bool.{and_from, eq-eqb}
use Rattle.pages.proofs.ByteLists.{bytes_from}
use Rattle.engine_next.proofs.machine.page_of.Goals as goal

pub returns : goal.returns
returns c =
    let k = c.in_ok-page.ensures.cases in
    (and_from _ _ (eq-eqb _ _ k.long) (bytes_from c.args.bytes.now (λ i. omega (arith, c.type_inv.bytes i))), k.same)

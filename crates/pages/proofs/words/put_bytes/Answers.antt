use Rattle.std.proofs.Common.{rules}
use Rattle.std.proofs.lemmas.List.{map-id}
use Rattle.pages.proofs.words.put_bytes.Goals as goal

pub returns : goal.returns
returns c = let e = c.put_each.ensures (λ n. n) (λ x r p. search rules) in rw map-id at e

use Rattle.std.proofs.Common.{◌≡◌, ◌/◌, length, drop, take, replicate, refl, ap, ◌∙◌, arith}
use Rattle.std.proofs.lemmas.List.{length-drop, length-take-le}
use Rattle.pages.proofs.ByteByByte.{at_once}
use Rattle.pages.proofs.Header.{heads_at_once}
use Rattle.pages.proofs.heads.read_header.Goals as goal

pub returns : goal.returns
returns c =
    let d = length-drop 256 c.args.page.now in
    let l : length (take 256 (drop 256 c.args.page.now)) ≡ 256 = length-take-le 256 _ (omega arith) in
    c.put_each.ensures at_once (λ x r p. p)
    ∙ heads_at_once c.args.page.now c.as_chunks.result.0.now _ (replicate 32 0) (omega arith) refl (ap (λ n. n / 8) l) c.as_chunks.ensures.front

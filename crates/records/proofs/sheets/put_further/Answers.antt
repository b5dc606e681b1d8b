use Rattle.std.proofs.Common.{◌≡◌, ◌+◌, ◌-◌, ◌*◌, length, take, drop, set, ap, ◌∙◌, arith}
use Rattle.std.proofs.lemmas.List.{length-drop, length-take-le}
use Rattle.pages.specs.Bytes.{placed}
use Rattle.records.proofs.SheetBytes.{marked_part}
use Rattle.records.proofs.sheets.put_further.Goals as goal

pub returns : goal.returns
returns c =
    let page = c.args.page.now in
    let k = 384 + 511 * c.args.j in
    let rest = drop k c.args.body.now in
    let e : k + 511 - k ≡ 511 = omega arith in
    let l : length (take 511 rest) ≡ 511 = length-take-le 511 rest (simp length-drop (omega arith)) in
    marked_part page _ (take 511 rest) 2 (c.put_bytes.ensures ∙ ap (λ n. placed 1 (take n rest) (set page 0 2)) e) (omega arith)

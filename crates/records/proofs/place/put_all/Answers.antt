use Rattle.std.proofs.Common.{◌≡◌, ◌+◌, ◌*◌, ◌≤◌, length, get_or, sym, ap, ◌∙◌, add-one, arith}
use Rattle.std.proofs.lemmas.Nat.{column_fits}
use Rattle.std.proofs.Math.Nat.{mul-suc}
use Rattle.pages.specs.Bytes.{placed}
use Rattle.records.proofs.SheetBytes.{all_more, all_put, one_more}
use Rattle.records.proofs.place.put_all.Goals as goal

pub loop-i-preserved : goal.loop-i-preserved
loop-i-preserved c =
    let i = c.loop-i.i in
    let w = c.args.width in
    let k = c.args.start + w * i in
    let row = c.loop-i.row in
    let ns = c.args.numbers.now in
    let fits : w * i + w ≤ w * length ns = column_fits w i w (length ns) (omega arith) (omega arith) in
    let next : w * (i + 1) ≡ w * i + w = ap (λ j. w * j) (add-one i) ∙ mul-suc w i in
    one_more k (c.args.start + w * (i + 1)) w (get_or ns i 0) _ row _ (omega arith) c.put_number.ensures (omega (arith, next))
    ∙ ap (λ v. placed k v row) (sym (all_more w ns i (omega arith))) ∙ c.loop-i.invariant

pub returns : goal.returns
returns c = sym (all_put c.args.width c.args.numbers.now c.loop-i.row (c.args.start + c.args.width * c.loop-i.i) c.loop-i.i (omega arith)) ∙ c.loop-i.invariant

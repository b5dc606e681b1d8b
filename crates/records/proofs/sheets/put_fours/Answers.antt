use Rattle.std.proofs.Common.{◌≡◌, ◌+◌, ◌*◌, [], get_or, sym, ap, ◌∙◌, arith, rules}
use Rattle.pages.specs.Bytes.{in_bytes, placed}
use Rattle.records.proofs.SheetBytes.{fours_all, fours_more, one_more}
use Rattle.records.proofs.sheets.put_fours.Goals as goal

pub loop-i-preserved : goal.loop-i-preserved
loop-i-preserved c =
    let i = c.loop-i.i in
    let k = c.args.start + 4 * i in
    let row = c.loop-i.row in
    let more = c.args.more.now in
    let a : c.unwrap_or.result ≡ get_or more i 0 = search rules in
    let e : c.put_number.new.row ≡ placed k (in_bytes 4 (get_or more i 0) []) row = c.put_number.ensures ∙ ap (λ a. placed k (in_bytes 4 a []) row) a in
    one_more k (c.args.start + 4 * (i + 1)) 4 (get_or more i 0) _ row _ (omega arith) e (omega arith)
    ∙ ap (λ v. placed k v row) (sym (fours_more 22 i more [] (omega arith))) ∙ c.loop-i.invariant

pub returns : goal.returns
returns c = sym (fours_all 22 c.loop-i.i (c.args.start + 4 * c.loop-i.i) c.args.more.now c.loop-i.row (omega arith)) ∙ c.loop-i.invariant

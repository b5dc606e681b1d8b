use Rattle.std.proofs.Common.{sym, ◌∙◌, ap, refl, arith}
use Rattle.pages.specs.Bytes.{placed}
use Rattle.records.proofs.SheetBytes.{laid_all, laid_more, one_more, widths_more}
use Rattle.records.proofs.sheets.put_fields.Goals as goal

pub loop-width-preserved : goal.loop-width-preserved
loop-width-preserved c =
    let i = c.loop-width.width-index in
    let k = c.loop-width.start in
    let row = c.loop-width.row in
    let fs = c.args.numbers.now in
    let more = widths_more fs i (0, 0) (omega arith) in record {
      row_is = one_more k _ _ _ _ row _ (omega (arith, c.loop-width.invariant.room_is)) c.put_number.ensures refl
          ∙ ap (λ v. placed k v row) (sym (laid_more fs i (0, 0) (omega arith))) ∙ c.loop-width.invariant.row_is;
      room_is = omega (arith, more, c.loop-width.invariant.room_is);
    }

pub returns : goal.returns
returns c = sym (laid_all c.args.numbers.now c.loop-width.row c.loop-width.start c.loop-width.width-index (omega arith)) ∙ c.loop-width.invariant.row_is

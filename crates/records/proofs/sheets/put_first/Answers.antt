use Rattle.std.proofs.Common.{◌≡◌, leb, [], length, take, ap, ◌∙◌, arith}
use Rattle.std.proofs.lemmas.List.{length-take-le}
use Rattle.pages.specs.Bytes.{placed}
use Rattle.pages.specs.Lists.{added_up, every}
use Rattle.pages.specs.Fields.{fields}
use Rattle.pages.proofs.Fields.{length_fields}
use Rattle.pages.proofs.Placed.{Wrote, and_more}
use Rattle.recurrence.specs.Value.{event_with}
use Rattle.records.specs.Layout.{first_fields, fours}
use Rattle.records.specs.Sheets.{fields_of, laid}
use Rattle.records.proofs.Fours.{length_fours}
use Rattle.records.proofs.SheetBytes.{placed_whole}
use Rattle.records.proofs.SheetLaws.{first_laid, joined_parts}
use Rattle.records.proofs.sheets.put_first.Goals as goal

pub put_fields-requires-clause-widths_at_most_8 : goal.put_fields-requires-clause-widths_at_most_8
unfolding fields_of
put_fields-requires-clause-widths_at_most_8 c = ap (every (λ f. leb f.0 8)) c.fields.ensures

pub put_fields-requires-clause-fields_inside : goal.put_fields-requires-clause-fields_inside
unfolding fields_of
put_fields-requires-clause-fields_inside c = let e : added_up (λ f. f.0) c.fields.result ≡ 40 = ap (added_up (λ f. f.0)) c.fields.ensures in omega arith

pub returns : goal.returns
returns c =
    let t = c.args.entry.now.title.now in
    let d = c.args.entry.now.left_out.now in
    let e = c.args.entry.now.event in
    let page = c.args.page.now in
    let more = c.args.more.now in
    let body = c.args.body.now in
    let fs = first_fields c.args.link c.args.number (event_with e t d) in
    let lf : length (fields fs []) ≡ 40 = length_fields fs [] in
    let lm = length_fours 22 more [] in
    let lb : length (take 384 body) ≡ 384 = length-take-le 384 body (omega arith) in
    let are = ap laid c.fields.ensures ∙ first_laid c.args.link c.args.number e t d in
    let w0 : Wrote 0 (fields fs []) page c.put_fields.new.row 40 = record { row = c.put_fields.ensures ∙ ap (λ f. placed 0 (fields f []) page) are; end = omega arith } in
    let w1 = and_more w0 (fours 22 more []) c.put_fours.new.row 128 (omega arith) c.put_fours.ensures (omega arith) in
    let w2 = and_more w1 (take 384 body) c.put_bytes.new.row 512 (omega arith) c.put_bytes.ensures (omega arith) in
    w2.row ∙ placed_whole _ page (omega (arith, w2.end)) ∙ joined_parts fs more (take 384 body)

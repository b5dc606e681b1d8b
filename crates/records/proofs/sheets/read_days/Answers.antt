use Rattle.std.proofs.Common.{length, arith, rules}
use Rattle.std.proofs.lemmas.List.{take_all, drop_all, append-nil}
use Rattle.pages.proofs.Over.{over_more}
use Rattle.records.proofs.SheetBytes.{length_read_threes, three_read}
use Rattle.records.proofs.sheets.read_days.Goals as goal

pub loop-i-preserved : goal.loop-i-preserved
loop-i-preserved c =
    let e = three_read (length c.args.days.now) c.loop-i.i c.args.body.now (omega arith) in
    let l = length_read_threes (length c.args.days.now) c.args.body.now in
    search (rules, over_more)

pub returns : goal.returns
returns c = let l = length_read_threes (length c.args.days.now) c.args.body.now in search (rules, take_all, drop_all, append-nil)

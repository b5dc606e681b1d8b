use Rattle.std.proofs.Common.{◌+◌, length, arith, rules}
use Rattle.pages.proofs.ByteLists.{length_eight}
use Rattle.pages.proofs.Placed.{more_at}
use Rattle.pages.specs.Bytes.{eight}
use Rattle.records.proofs.write.put_text.Goals as goal

pub returns : goal.returns
returns c =
    let n = length c.args.text.now in
    let l = length_eight n in
    record { end = search rules; row = more_at c.args.at (c.args.at + 8) (eight n) c.args.text.now c.args.out.now _ _ (omega arith) c.put_number.ensures (omega arith) c.put_bytes.ensures }

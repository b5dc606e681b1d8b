use Rattle.std.proofs.Common.{◌+◌, length, arith, rules}
use Rattle.pages.specs.Lists.{flat}
use Rattle.pages.specs.Bytes.{eight}
use Rattle.pages.proofs.ByteLists.{length_eight}
use Rattle.pages.proofs.Placed.{more_at}
use Rattle.records.proofs.write.put_numbers.Goals as goal

pub returns : goal.returns
returns c =
    let ns = c.args.ns.now in
    let l = length_eight (length ns) in
    record { end = search rules; row = more_at c.args.at (c.args.at + 8) (eight (length ns)) (flat eight ns) c.args.out.now _ _ (omega arith) c.put_number.ensures (omega arith) c.put_all.ensures }

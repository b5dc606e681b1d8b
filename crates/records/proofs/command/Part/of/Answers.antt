use Rattle.std.proofs.Common.{◌≡◌, ◌+◌, ◌-◌, arith}
use Rattle.records.proofs.Inside.{part_cut}
use Rattle.records.proofs.command.Part.of.Goals as goal

pub returns : goal.returns
returns c =
    let f = c.min-from.result in
    let n = c.min-count.result in
    let e : f + n - f ≡ n = omega arith in
    part_cut c.args.text.now c.args.self.start c.args.self.count f n (f + n - f) c.min-from.ensures c.min-count.ensures e

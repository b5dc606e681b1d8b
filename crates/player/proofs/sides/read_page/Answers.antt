use Rattle.std.proofs.Common.{◌/◌, ◌<◌, ◌≤◌, length, sym, arith}
use Rattle.player.proofs.Cuts.{page_past, part_is}
use Rattle.player.proofs.sides.read_page.Goals as goal

pub returns-then-k-pages_of : goal.returns-then-k-pages_of
returns-then-k-pages_of c =
    let past : length c.args.side.now / 512 ≤ c.args.k = omega arith in
    sym (page_past (length c.args.side.now / 512) c.args.side.now c.args.k past)

pub returns : goal.returns
returns c =
    let here : c.args.k < length c.args.side.now / 512 = omega arith in
    part_is c.args.side.now c.args.k here

use Rattle.std.proofs.Common.{◌≡◌, ◌+◌, ◌-◌, ◌*◌, ◌/◌, ◌<◌, ◌≤◌, length, ap, ◌∙◌, arith}
use borrow.Rule.Slice.PartMut.{put_mid}
use Rattle.pages.specs.Device.{page_at, set_page}
use Rattle.player.specs.Sides.{front, in_pages}
use Rattle.player.proofs.Cuts.{front_is, front_most, page_short, set_past}
use Rattle.player.proofs.sides.put_front.Goals.{then-k-pages_of-via-then-k-pages_of, then-k-pages_of-via-else-k-pages_of+then-page-ne-PAGE}
use Rattle.player.proofs.sides.put_front.Goals as goal

pub returns-then-k-pages_of : goal.returns-then-k-pages_of
returns-then-k-pages_of c h =
    let past : length c.args.side.now / 512 ≤ c.args.k = omega arith in
    set_past _ _ _ _ past

pub returns : goal.returns
returns c h =
    let k = c.args.k in
    let side = c.args.side.now in
    let count = c.min-count.result in
    let here : k < length side / 512 = omega arith in
    let few : count ≤ 512 = omega arith in
    let place : k * 512 ≡ 512 * k = omega arith in
    let long : k * 512 + count - k * 512 ≡ count = omega arith in
    front_is count side _ k c.args.page.now few here h (λ i. put_mid (place i) (long i) side (c.copy_from_slice.ensures.after i))
    ∙ ap (λ p. set_page (in_pages side) k p)
    (ap (λ n. front n c.args.page.now (page_at (in_pages side) k)) c.min-count.ensures
    ∙ front_most c.args.count c.args.page.now (page_at (in_pages side) k) h (page_short _ side k))

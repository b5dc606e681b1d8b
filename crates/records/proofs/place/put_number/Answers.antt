use Rattle.std.proofs.Common.{◌-◌, take, drop, ap, ◌∙◌}
use Rattle.pages.specs.Bytes.{placed}
use Rattle.records.proofs.SheetBytes.{low_of_eight}
use Rattle.records.proofs.place.put_number.Goals as goal

pub returns : goal.returns
returns c =
    let w = c.args.width in
    c.put_bytes.ensures
    ∙ ap (λ v. placed c.args.start v c.args.row.now) (ap (λ v. take (8 - (8 - w)) (drop (8 - w) v)) c.eight_bytes.ensures ∙ low_of_eight w c.args.number c.requires.width_at_most_8)

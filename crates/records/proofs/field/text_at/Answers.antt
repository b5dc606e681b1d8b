use Rattle.std.proofs.Common.{◌∙◌}
use Rattle.records.proofs.Inside.{text_part}
use Rattle.records.proofs.field.text_at.Goals as goal

pub returns : goal.returns
returns c = c.part_at.ensures.found ∙ text_part c.args.few c.args.most c.args.bytes.now c.args.at

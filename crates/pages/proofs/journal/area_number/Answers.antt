use Rattle.std.proofs.Common.{ap, ◌∙◌, arith}
use Rattle.std.proofs.lemmas.List.{take-take}
use Rattle.pages.specs.Bytes.{from_eight}
use Rattle.pages.specs.Fields.{at, number}
use Rattle.pages.specs.Store.{head_number}
use Rattle.pages.proofs.journal.area_number.Goals as goal

pub returns : goal.returns
unfolding head_number at number
returns c = c.number.ensures ∙ ap (from_eight 0) (take-take 8 248 _ (omega arith))

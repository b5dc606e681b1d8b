use Rattle.std.proofs.Common.{rules}
use Rattle.pages.specs.Store.{area}
use Rattle.pages.proofs.journal.other_area.Goals as goal

pub returns-then-area_number-eq1 : goal.returns-then-area_number-eq1
unfolding area
returns-then-area_number-eq1 c = search rules

pub returns-else-area_number-eq1 : goal.returns-else-area_number-eq1
unfolding area
returns-else-area_number-eq1 c = search rules

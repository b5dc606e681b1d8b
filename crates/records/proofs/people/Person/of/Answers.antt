use Rattle.std.proofs.Common.{ap, ◌∙◌}
use Rattle.pages.specs.Fields.{at}
use Rattle.records.proofs.Persons.{page_block}
use Rattle.records.proofs.people.Person.of.Goals as goal

pub returns-clause-next : goal.returns-clause-next
returns-clause-next c = c.number_at.ensures ∙ ap (at 1 8) (page_block 512 c.args.place c.args.page.now c.told-page)

pub returns-clause-head : goal.returns-clause-head
returns-clause-head c = c.number_at-2.ensures ∙ ap (at 9 4) (page_block 512 c.args.place c.args.page.now c.told-page)

use Rattle.std.proofs.Common.{◌∙◌, rules, tests}
use Rattle.std.proofs.lemmas.Iterator.{YieldsList-from_range}
use Rattle.std.proofs.lemmas.Iterator.Search.{any_from_yields_List}
use Rattle.records.proofs.Persons.{names_found}
use Rattle.records.proofs.people.has_name.Goals as goal

pub returns : goal.returns
returns c =
    any_from_yields_List _ _ _ _ c.any.ensures.ran (YieldsList-from_range 0 c.args.count c.args.count (search rules) (search rules)) (λ x b q k. search (rules, tests))
    ∙ names_found c.args.page.now c.args.name.now c.args.count c.told-page

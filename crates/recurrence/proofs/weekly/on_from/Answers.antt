use Rattle.std.proofs.Common.{ℕ, ◌-◌, false, Bool, slice_index_or, refl, sym, ◌∙◌, rules, tests}
use Rattle.std.proofs.lemmas.Iterator.{YieldsList-from_range}
use Rattle.std.proofs.lemmas.Iterator.Adapters.{option_map_id}
use Rattle.std.proofs.lemmas.Iterator.Search.{find_from_yields_List}
use Rattle.recurrence.specs.Event.{has}
use Rattle.recurrence.specs.Week.{days_of, flags}
use Rattle.recurrence.proofs.Nexts.{found_from}
use Rattle.recurrence.proofs.Weeks.{has_day}
use Rattle.recurrence.proofs.weekly.on_from.Goals as goal

pub returns-clause-is : goal.returns-clause-is
returns-clause-is c =
    let w = c.args.weekdays in
    let a : ℕ = c.args.start in
    let test : ℕ → Bool = λ k. slice_index_or (flags w) k false in
    let found = find_from_yields_List test _ _ c.find.result c.find.ensures.ran (YieldsList-from_range a 7 (7 - a) refl refl) (λ x b q k. search (rules, tests)) in
    sym (option_map_id c.find.result) ∙ found ∙ found_from (has (days_of w)) test (has_day w) a (7 - a)

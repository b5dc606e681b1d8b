use Rattle.std.proofs.Common.{[], ◌∷◌, ◌++◌, sym, ap, ◌∙◌, append_assoc, append-nil}
use Rattle.pages.specs.Bytes.{eight}
use Rattle.records.specs.Command.{spelled}
use Rattle.board.proofs.say.list_command.Goals as goal

pub returns : goal.returns
unfolding spelled
returns c =
    let who = eight c.args.person in
    let from = eight c.args.from in
    let to = eight c.args.to in
    c.in_ok-put_code.ensures
    ∙ ap (λ l. l ++ (7 ∷ (who ++ (from ++ (to ++ []))))) c.new-out.ensures.items
    ∙ ap (λ l. 7 ∷ (who ++ (from ++ l))) (append-nil to)
    ∙ ap (λ l. 7 ∷ l) (sym (append_assoc who from to))

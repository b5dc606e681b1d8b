use Rattle.std.proofs.Common.{replicate, ap, ◌∙◌}
use Rattle.std.proofs.lemmas.List.{length-take-le}
use Rattle.pages.proofs.Over.{blank_over}
use Rattle.pages.proofs.words.blank_row.Goals as goal

pub returns : goal.returns
returns c =
    let l = length-take-le 512 c.args.to.now c.requires in
    blank_over _ c.args.to.now (c.fill.ensures.after (λ y e. e) ∙ ap (λ n. replicate n 0) l)

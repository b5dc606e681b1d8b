use Rattle.std.proofs.Common.{◌≡◌, ℕ, replicate, ap, ◌∙◌, arith}
use Rattle.records.specs.Sheets.{threes}
use Rattle.records.proofs.SheetBytes.{both_padded, length_threes}
use Rattle.records.proofs.sheets.put_body.Goals as goal

pub returns : goal.returns
returns c =
    let days = c.args.days.now in
    let z : c.fill.new.self ≡ replicate {A = ℕ} 3450 0 = c.fill.ensures.after (λ y e. e) ∙ ap (λ n. replicate {A = ℕ} n 0) c.told-body in
    both_padded 3450 c.args.title.now (threes days) _ _ _ z c.put_bytes.ensures c.put_all.ensures (omega (arith, length_threes days))

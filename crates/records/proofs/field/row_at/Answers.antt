use Rattle.std.proofs.Common.{ℕ, cond, Some, None, sym, ap, ◌∙◌}
use Rattle.records.specs.declared.command.Part.{Part}
use Rattle.records.proofs.Inside.{row_none, row_part}
use Rattle.records.proofs.Rows.{climbs_cut}
use Rattle.records.proofs.field.row_at.Goals as goal

pub returns-in_err-part-clause-found : goal.returns-in_err-part-clause-found
returns-in_err-part-clause-found c =
    c.from_residual.ensures ∙ sym (row_none c.args.few c.args.most c.args.lo c.args.hi c.args.bytes.now c.args.at (sym c.part_at.ensures.found ∙ c.in_err-part.was))

pub returns-then-not-rises-clause-found : goal.returns-then-not-rises-clause-found
returns-then-not-rises-clause-found c =
    let p : Part × ℕ = (c.in_ok-part.part, c.in_ok-part.next) in
    let r = row_part c.args.few c.args.most c.args.lo c.args.hi c.args.bytes.now c.args.at p (sym c.part_at.ensures.found ∙ c.in_ok-part.was) in
    let i = c.in_ok-part.ensures.inside in
    let k = climbs_cut p.0.count c.args.lo c.args.hi p.0.start p.1 c.args.bytes.now i.0 i.1 in
    sym (r ∙ ap (λ b. cond b (Some p) None) (sym k ∙ sym c.rises.ensures ∙ c.if-not-rises.true))

pub returns-clause-found : goal.returns-clause-found
returns-clause-found c =
    let p : Part × ℕ = (c.in_ok-part.part, c.in_ok-part.next) in
    let r = row_part c.args.few c.args.most c.args.lo c.args.hi c.args.bytes.now c.args.at p (sym c.part_at.ensures.found ∙ c.in_ok-part.was) in
    let i = c.in_ok-part.ensures.inside in
    let k = climbs_cut p.0.count c.args.lo c.args.hi p.0.start p.1 c.args.bytes.now i.0 i.1 in
    sym (r ∙ ap (λ b. cond b (Some p) None) (sym k ∙ sym c.rises.ensures ∙ c.if-not-rises.false))

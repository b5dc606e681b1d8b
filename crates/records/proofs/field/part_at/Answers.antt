use Rattle.std.proofs.Common.{◌<◌, length, refl, sym, ◌∙◌, arith, rules}
use Rattle.std.proofs.Math.Nat.{lt_of_not-le}
use Rattle.records.specs.Reader.{part}
use Rattle.records.proofs.Inside.{part_fits, part_over, room_for, too_many}
use Rattle.records.proofs.field.part_at.Goals as goal

pub returns-in_err-count-clause-found : goal.returns-in_err-count-clause-found
unfolding part
returns-in_err-count-clause-found g c = search rules

pub returns-in_err-checked_sub-clause-found : goal.returns-in_err-checked_sub-clause-found
returns-in_err-checked_sub-clause-found g c =
    let l : length c.args.bytes.now < c.in_ok-count.start = lt_of_not-le c.in_err-checked_sub.ensures in
    c.from_residual-in_err-checked_sub.ensures
    ∙ sym (part_over g.row.WIDTH c.args.few c.args.most c.args.bytes.now c.args.at c.in_ok-count.count c.in_ok-count.start (sym c.field_at.ensures ∙ c.in_ok-count.was) (omega arith))

pub returns-then-branch-count-clause-found : goal.returns-then-branch-count-clause-found
returns-then-branch-count-clause-found g c =
    let w = g.row.WIDTH in
    let n = c.in_ok-count.count in
    let s = c.in_ok-count.start in
    let t = c.args.bytes.now in
    let h = too_many (length t) s w n c.requires (rw (← c.in_ok-checked_sub.ensures.1) c.if-branch-count.true) in
    sym (part_over w c.args.few c.args.most t c.args.at n s (sym c.field_at.ensures ∙ c.in_ok-count.was) h)

pub returns : goal.returns
returns g c =
    let w = g.row.WIDTH in
    let n = c.in_ok-count.count in
    let s = c.in_ok-count.start in
    let t = c.args.bytes.now in
    let h = room_for (length t) s w n c.requires c.in_ok-checked_sub.ensures.0 (rw (← c.in_ok-checked_sub.ensures.1) c.if-branch-count.false) in
    record { found = sym (part_fits w c.args.few c.args.most t c.args.at n s (sym c.field_at.ensures ∙ c.in_ok-count.was) h); inside = (refl, h) }

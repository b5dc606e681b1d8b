use Rattle.std.proofs.Common.{◌+◌, ◌≤◌, [], ◌∷◌, length, refl, ap, ◌∙◌, arith}
use Rattle.pages.specs.Bytes.{eight, placed}
use Rattle.pages.proofs.ByteLists.{length_eight}
use Rattle.pages.proofs.Placed.{Wrote, and_more}
use Rattle.recurrence.specs.Value.{kind_number}
use Rattle.recurrence.specs.Week.{days_of}
use Rattle.records.specs.Command.{numbers}
use Rattle.records.proofs.Writing.{length_numbers}
use Rattle.records.proofs.write.put_repeat.Goals as goal

pub returns : goal.returns
returns c =
    let r = c.args.repeat in
    let k = c.args.at in
    let y = c.args.out.now in
    let j = c.put_days-next.result in
    let few = c.put_days-next.ensures.few in
    let end = c.put_days-next.ensures.end in
    let h : k ≤ length y = omega arith in
    let l1 = length_eight r.step in
    let l2 = length_numbers (days_of r.weekdays) in
    let l3 = length_eight r.times in
    let l4 = length_eight r.last in
    let w0 : Wrote k (kind_number r.kind ∷ []) y c.put_byte.new.row (k + 1) =
    record { row = c.put_byte.ensures ∙ ap (λ b. placed k (b ∷ []) y) c.from.ensures; end = refl } in
    let w1 = and_more w0 (eight r.step) c.put_number.new.row (k + 9) h c.put_number.ensures (omega arith) in
    let w2 = and_more w1 (numbers (days_of r.weekdays)) c.put_days-next.new.out j h c.put_days-next.ensures.row (omega arith) in
    let w3 = and_more w2 (eight r.times) c.put_number-2.new.row (j + 8) h c.put_number-2.ensures (omega arith) in
    let w4 = and_more w3 (eight r.last) c.put_number-3.new.row (j + 16) h c.put_number-3.ensures (omega arith) in
    record { end = w4.end; few = omega arith; row = w4.row }

use Rattle.std.proofs.Common.{◌+◌, ◌≤◌, [], ◌∷◌, length, refl, ap, ◌∙◌, arith}
use Rattle.pages.specs.Bytes.{eight, placed}
use Rattle.pages.proofs.ByteLists.{length_eight}
use Rattle.pages.proofs.Placed.{Wrote, and_more}
use Rattle.recurrence.specs.Value.{repeat_of}
use Rattle.records.specs.Command.{bit, repeat_spelled}
use Rattle.records.specs.Written.{timing_spelled}
use Rattle.records.proofs.write.put_timing.Goals as goal

pub returns : goal.returns
unfolding timing_spelled
returns c =
    let e = c.args.event in
    let k = c.args.at in
    let y = c.args.out.now in
    let i = c.put_repeat.result in
    let few = c.put_repeat.ensures.few in
    let end = c.put_repeat.ensures.end in
    let r = repeat_spelled (repeat_of e.repeat) in
    let h : k ≤ length y = omega arith in
    let l1 = length_eight e.first in
    let l2 = length_eight e.minute in
    let l3 = length_eight e.long in
    let z0 : Wrote k (e.zone ∷ []) y c.put_byte.new.row (k + 1) = record { row = c.put_byte.ensures; end = refl } in
    let w1 = and_more z0 (eight e.first) c.put_number.new.row (k + 9) h c.put_number.ensures (omega arith) in
    let w2 = and_more w1 (eight e.minute) c.put_number-2.new.row (k + 17) h c.put_number-2.ensures (omega arith) in
    let w3 = and_more w2 (eight e.long) c.put_number-3.new.row (k + 25) h c.put_number-3.ensures (omega arith) in
    let b0 : Wrote (k + 25) (bit e.busy ∷ []) c.put_number-3.new.row c.put_byte-2.new.row (k + 26) =
    record { row = c.put_byte-2.ensures ∙ ap (λ b. placed (k + 25) (b ∷ []) c.put_number-3.new.row) c.from.ensures; end = omega arith } in
    let b1 = and_more b0 r c.put_repeat.new.out i (omega arith) c.put_repeat.ensures.row (omega arith) in
    let w4 = and_more w3 (bit e.busy ∷ r) c.put_repeat.new.out i h b1.row b1.end in
    record { end = w4.end; few = omega arith; row = w4.row }

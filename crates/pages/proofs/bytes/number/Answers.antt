use Rattle.std.proofs.Common.{◌+◌, ◌*◌, ◌<◌, drop, length, sym, ap, ◌∙◌, arith}
use Rattle.std.proofs.lemmas.List.{length-take-le, take_all}
use Rattle.pages.specs.Bytes.{from_eight}
use Rattle.pages.proofs.ByteByByte.{byte_more, fits_byte, from_eight_more, from_eight_all, eight_at_once}
use Rattle.pages.proofs.bytes.number.Goals as goal

pub returns-in-Some : goal.returns-in-Some
returns-in-Some c =
    let first = c.in-Some.ensures.cases in
    c.from_be_bytes.ensures ∙ sym (eight_at_once _ (ap length first.same ∙ length-take-le 8 _ first.enough)) ∙ ap (from_eight 0) first.same

pub overflow_mul-n : goal.overflow_mul-n
overflow_mul-n c =
    let l : length c.args.bytes.now < 8 = c.in_default.ensures.cases in
    omega (arith, fits_byte c.loop-b.n 0 c.loop-b.b-index c.loop-b.invariant.0 (omega arith) (omega arith))

pub loop-b-preserved : goal.loop-b-preserved
loop-b-preserved c = (
  byte_more _ _ _ c.loop-b.invariant.0 (omega (arith, c.type_inv.bytes c.loop-b.b-index)),
  ap (λ b. from_eight (256 * c.loop-b.n + b) (drop (c.loop-b.b-index + 1) c.args.bytes.now)) c.from.ensures ∙ sym (from_eight_more c.loop-b.n c.args.bytes.now c.loop-b.b-index c.loop-b-test.true) ∙ c.loop-b.invariant.1,
)

pub returns : goal.returns
returns c =
    let l : length c.args.bytes.now < 8 = c.in_default.ensures.cases in
    rw (take_all 8 c.args.bytes.now (omega arith)) (sym (from_eight_all _ _ _ c.loop-b-test.false) ∙ c.loop-b.invariant.1)

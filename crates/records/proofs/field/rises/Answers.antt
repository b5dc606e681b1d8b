use Rattle.std.proofs.Common.{◌/◌, length, sym, ◌∙◌, arith}
use Rattle.records.proofs.Rows.{number_of_chunk, front_more, climbs_all, front_low, front_high}
use Rattle.records.proofs.field.rises.Goals as goal
use Rattle.records.proofs.field.rises.Goals.{then-n-least-via-then-n-least, then-n-least-via-else-n-least+then-n-hi}

pub returns-then-n-least : goal.returns-then-n-least
returns-then-n-least c =
    let t = c.args.numbers.now in
    let m = length t / 8 in
    let i = c.loop-eight.eight-index in
    let l = c.as_chunks.ensures.front_len in
    let n = number_of_chunk _ m i _ t c.as_chunks.ensures.front (omega arith) c.number-n.ensures in
    elim c.then-n-least.branch [
      | then-n-least-via-then-n-least w ↦ sym (front_low m i _ c.args.hi _ t (omega arith) n w.if-n-least.true) ∙ c.loop-eight.invariant
      | then-n-least-via-else-n-least+then-n-hi w ↦ sym (front_high m i _ c.args.hi _ t (omega arith) n w.if-n-least.false w.if-n-hi.true) ∙ c.loop-eight.invariant
    ]

pub loop-eight-preserved : goal.loop-eight-preserved
loop-eight-preserved c =
    let t = c.args.numbers.now in
    let m = length t / 8 in
    let i = c.loop-eight.eight-index in
    let l = c.as_chunks.ensures.front_len in
    let n = number_of_chunk _ m i _ t c.as_chunks.ensures.front (omega arith) c.number-n.ensures in
    front_more m i _ c.args.hi _ t (omega arith) n c.if-n-least.false c.if-n-hi.false ∙ c.loop-eight.invariant

pub returns : goal.returns
returns c =
    let t = c.args.numbers.now in
    let l = c.as_chunks.ensures.front_len in
    sym (climbs_all (length t / 8) c.loop-eight.eight-index _ _ t _ (omega arith)) ∙ c.loop-eight.invariant

use Rattle.std.proofs.Common.{◌≡◌, ◌+◌, ◌-◌, ◌*◌, ◌/◌, length, sym, ap, ◌∙◌, arith}
use Rattle.records.specs.Reader.{marks}
use Rattle.records.proofs.Rows.{number_of_chunk, front_marks, marks_all}
use Rattle.records.proofs.field.marked.Goals as goal

pub loop-eight-init : goal.loop-eight-init
loop-eight-init c =
    let n = length c.args.numbers.now / 8 in
    let e : n - 0 ≡ n = omega arith in
    ap (λ m. marks m c.args.numbers.now 0 c.none-on.result) e ∙ ap (marks n c.args.numbers.now 0) c.none-on.ensures

pub loop-eight-preserved : goal.loop-eight-preserved
loop-eight-preserved c =
    let t = c.args.numbers.now in
    let m = length t / 8 in
    let i = c.loop-eight.eight-index in
    let l = c.as_chunks.ensures.front_len in
    let n = number_of_chunk _ m i _ t c.as_chunks.ensures.front (omega arith) c.number.ensures in
    ap (marks (m - (i + 1)) t (8 * (i + 1))) c.with-on.ensures ∙ front_marks m i _ t c.loop-eight.on (omega arith) n ∙ c.loop-eight.invariant

pub returns : goal.returns
returns c =
    let t = c.args.numbers.now in
    let l = c.as_chunks.ensures.front_len in
    sym (marks_all (length t / 8) c.loop-eight.eight-index t _ _ (omega arith)) ∙ c.loop-eight.invariant

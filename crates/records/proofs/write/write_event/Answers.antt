use Rattle.std.proofs.Common.{◌≡◌, true, ◌++◌, length, Some, ap, ◌∙◌, arith}
use Rattle.std.proofs.lemmas.Bool.{le-leb, and_from}
use Rattle.pages.specs.Bytes.{with_length, over}
use Rattle.pages.proofs.Placed.{Wrote, and_more, placed_front}
use Rattle.recurrence.specs.Value.{event_with}
use Rattle.records.specs.Command.{numbers, event_spelled}
use Rattle.records.specs.Written.{timing_spelled, writes}
use Rattle.records.proofs.Writing.{length_numbers, length_text, event_regrouped}
use Rattle.records.proofs.write.write_event.Goals as goal

pub returns : goal.returns
returns c =
    let t = c.args.entry.now.title.now in
    let d = c.args.entry.now.left_out.now in
    let y = c.args.out.now in
    let e = c.args.entry.now.event in
    let l0 = length_text t in
    let l2 = length_numbers d in
    let w0 : Wrote 0 (with_length t) y c.put_text-at.new.out c.put_text-at.result = record { row = c.put_text-at.ensures.row; end = omega (arith, c.put_text-at.ensures.end) } in
    let w1 = and_more w0 (timing_spelled e) c.put_timing-at.new.out c.put_timing-at.result (omega arith) c.put_timing-at.ensures.row c.put_timing-at.ensures.end in
    let w2 = and_more w1 (numbers d) c.put_numbers.new.out c.put_numbers.result (omega arith) c.put_numbers.ensures.row (omega (arith, c.put_numbers.ensures.end)) in
    let s : with_length t ++ timing_spelled e ++ numbers d ≡ event_spelled (event_with e t d) = event_regrouped e t d in
    let f : writes t d y ≡ true = and_from _ _ (le-leb (length t) 255 (omega arith)) (and_from _ _ (le-leb (length d) 1000 (omega arith)) (le-leb 8386 (length y) (omega arith))) in
    let n : c.put_numbers.result ≡ length (event_spelled (event_with e t d)) = w2.end ∙ (let z = ap length s in omega arith) in
    record { value = rw f (ap Some n); row = rw f (w2.row ∙ placed_front _ y ∙ ap (λ w. over w y) s) }

use Rattle.std.proofs.Common.{◌≡◌, sym, ◌∙◌, arith}
use Rattle.pages.proofs.ByteLists.{bytes_from}
use Rattle.records.specs.Reader.{found}
use Rattle.records.proofs.Right.{found_first, found_none, reads, spelled_once}
use Rattle.records.proofs.read.read.Goals as goal

pub returns-in_err-first : goal.returns-in_err-first
returns-in_err-first c =
    let e : found c.args.bytes.now ≡ c.from_residual.result = found_none c.args.bytes.now c.in_err-first.ensures.value ∙ sym c.from_residual.ensures in
    record { value = sym e; meaning = reads _ _ e; once = spelled_once }

pub returns : goal.returns
returns c =
    let b = bytes_from c.args.bytes.now (λ i. omega (arith, c.type_inv.bytes i)) in
    let e : found c.args.bytes.now ≡ c.by_kind.result = found_first c.args.bytes.now c.in_ok-first.field-0.now c.in_ok-first.ensures.value b ∙ sym c.by_kind.ensures in
    record { value = sym e; meaning = reads _ _ e; once = spelled_once }

use Rattle.std.proofs.Common.{◌≡◌, ◌+◌, [], drop}
use Rattle.pages.specs.Bytes.{placed}
use Rattle.pages.specs.Fields.{fields}
use Rattle.pages.specs.Lists.{added_up}
use Rattle.records.specs.Sheets.{laid}
use Rattle.records.proofs.sheets.put_fields.Given as goal

abbrev pub invariant-loop-width : goal.invariant-loop-width
invariant-loop-width l = record {
  row_is : placed l.start (fields (laid (drop l.width-index l.numbers)) []) l.row ≡ placed 0 (fields (laid l.numbers) []) l.initial.row;
  room_is : l.start + added_up (λ f. f.0) (drop l.width-index l.numbers) ≡ added_up (λ f. f.0) l.numbers;
}

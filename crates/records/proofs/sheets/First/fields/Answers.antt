use Rattle.std.proofs.Common.{◌≡◌, ◌∙◌}
use Rattle.recurrence.specs.Value.{kind_number}
use Rattle.records.specs.Sheets.{fields_of}
use Rattle.records.proofs.SheetLaws.{bit_is}
use Rattle.records.proofs.sheets.First.fields.Goals as goal

pub returns : goal.returns
unfolding fields_of
returns c =
    let e = c.args.self.event in
    let r = e.repeat in
    let on = r.weekdays in
    let zone : c.from.result ≡ e.zone = c.from.ensures in
    let busy = c.from-2.ensures ∙ bit_is e.busy in
    let kind : c.from-4.result ≡ kind_number r.kind = c.from-4.ensures ∙ c.from-3.ensures in
    let monday = c.from-5.ensures ∙ bit_is on.monday in
    let tuesday = c.from-6.ensures ∙ bit_is on.tuesday in
    let wednesday = c.from-7.ensures ∙ bit_is on.wednesday in
    let thursday = c.from-8.ensures ∙ bit_is on.thursday in
    let friday = c.from-9.ensures ∙ bit_is on.friday in
    let saturday = c.from-10.ensures ∙ bit_is on.saturday in
    let sunday = c.from-11.ensures ∙ bit_is on.sunday in
    cc

use Rattle.std.proofs.Common.{◌∙◌}
use Rattle.records.proofs.SheetBytes.{relinked}
use Rattle.records.proofs.sheets.relink.Goals as goal

pub returns : goal.returns
returns c = c.put_number.ensures ∙ relinked c.args.link c.args.page.now

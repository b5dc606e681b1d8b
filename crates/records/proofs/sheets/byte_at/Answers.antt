use Rattle.records.proofs.SheetBytes.{at_byte}
use Rattle.records.proofs.sheets.byte_at.Goals as goal

pub returns : goal.returns
returns c = at_byte c.args.start c.args.page.now

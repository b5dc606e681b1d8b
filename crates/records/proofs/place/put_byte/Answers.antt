use Rattle.std.proofs.Common.{rules}
use Rattle.pages.proofs.Placed.{placed_byte}
use Rattle.records.proofs.place.put_byte.Goals as goal

pub returns : goal.returns
returns c = search (rules, placed_byte)

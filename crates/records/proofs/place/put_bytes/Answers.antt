use Rattle.std.proofs.Common.{rules}
use Rattle.pages.proofs.Placed.{placed_bytes}
use Rattle.records.proofs.place.put_bytes.Goals as goal

pub returns : goal.returns
returns c = search (rules, placed_bytes)

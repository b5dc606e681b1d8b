use Rattle.std.proofs.Common.{arith}
use Rattle.pages.proofs.Header.{header_over}
use Rattle.pages.proofs.heads.put_header.Goals as goal

pub returns : goal.returns
returns c = header_over c.args.head.now c.args.out.now c.blank_row.new.to c.put_numbers.new.to (omega arith) c.blank_row.ensures c.put_numbers.ensures

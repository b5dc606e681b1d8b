-- What the reader promises: for any bytes, the command that they spell and that fits; none where there is none.
use Rattle.std.specs.Prelude.{ℕ, List, Some, None, Option}
use Rattle.pages.specs.Promise.{Never}
use Rattle.records.specs.Command.{Command as Meant}
use Rattle.records.specs.declared.command.Command.{Command}
use Rattle.records.specs.Promise.{Said}
use Rattle.records.specs.Reader.{meant}

unfoldable pub Reads : List ℕ → Option Command → Type 0
Reads t (Some c) = Said t (meant t c)
Reads t None = (c : Meant) → Said t c → Never

-- Why a command is not done. Assumes nothing: these are definitions.
use Rattle.std.specs.Prelude.{◌<◌, Result, Ok, Err}
use Rattle.engine.specs.Acts.{refusal_number}
use Rattle.engine.specs.declared.act.Refusal.{Refusal}
use Rattle.engine.specs.declared.act.Refusal.TheVariants.{Misused, Fault}
use Rattle.host.specs.declared.machine.End.{End}
use Rattle.host.specs.declared.machine.End.TheVariants.{Done, Refused, StillRunning, Astray}
use Rattle.host.specs.declared.house.Undone.{Undone}
use Rattle.host.specs.declared.house.Undone.TheVariants.{Refused as Refuses, Io}

-- a refusal has a number from 1 to 999
abbrev pub Numbered : Undone → Type 0
Numbered (Refuses r) = (0 < refusal_number r) × (refusal_number r < 1000)
Numbered (Io e) = Unit {0}

-- a refusal is handed on as it is, but Misused, which no house may do
abbrev pub passed_on : Refusal → Refusal
passed_on Misused = Fault
passed_on r = r

abbrev pub ended_of : End → Result Unit Undone
ended_of Done = Ok tt
ended_of (Refused r) = Err (Refuses (passed_on r))
ended_of StillRunning = Err (Refuses Fault)
ended_of Astray = Err (Refuses Fault)

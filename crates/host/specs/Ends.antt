-- The number of how a run of the machine ended. Assumes nothing: these are definitions.
use Rattle.std.specs.Prelude.{ℕ}
use Rattle.pages.specs.Run.{refusal_end}
use Rattle.engine.specs.Acts.{refusal_number}
use Rattle.host.specs.declared.machine.End.{End}
use Rattle.host.specs.declared.machine.End.TheVariants.{Done, Refused, StillRunning, Astray}

-- 0 done, a refusal's own, 1000 still running, 1001 for what no device has and for what is no refusal
abbrev pub end_number : End → ℕ
end_number Done = 0
end_number (Refused r) = refusal_end (refusal_number r)
end_number StillRunning = 1000
end_number Astray = 1001

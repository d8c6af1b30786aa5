-- Why a run ends before all of it is done.
use Rattle.std.specs.Prelude.{ℕ, Bool, true, false, Result, Ok, Err}
use Rattle.mud_world.specs.declared.fault.SpoolFault.{SpoolFault}
use Rattle.mud_world.specs.declared.fault.SpoolFault.TheVariants as spool
use Rattle.run_common.specs.declared.stop.Stop.{Stop}
use Rattle.run_common.specs.declared.stop.Stop.TheVariants.{Failed, Memory}

-- a fault of the spool ends it
abbrev pub stop_at : SpoolFault → Stop
stop_at spool.Failed = Failed
stop_at spool.Memory = Memory

-- whether the spool or the door failed
abbrev pub has_failed : {A : Type 0} → Result A Stop → Bool
has_failed (Ok a) = false
has_failed (Err Failed) = true
has_failed (Err Memory) = false

-- the status of a run that ends so
abbrev pub status_at : Stop → ℕ
status_at Failed = 4
status_at Memory = 5

-- How a keeper tells what the database refused.
use Rattle.std.specs.Prelude.{Bool, Option, Some, None, Result, Ok, Err}
use Rattle.sqlite.specs.declared.error.Error.{Error}
use Rattle.sqlite.specs.declared.error.Error.TheVariants.{SqliteFailure}
use Rattle.sqlite.specs.declared.error.ErrorCode.{ErrorCode}
use Rattle.sqlite.specs.declared.error.ErrorCode.TheVariants.{OutOfMemory, DatabaseBusy, NotADatabase, DatabaseCorrupt, SystemIoFailure, Closed}
use Rattle.sqlite.specs.declared.error.ErrorCode.TheVariants as code
use Rattle.mud_world.specs.Items as keeper
use Rattle.mud_world.specs.declared.fault.KeepFault.{KeepFault}
use Rattle.mud_world.specs.declared.fault.KeepFault.TheVariants as fault
use Rattle.keep_sqlite.specs.declared.refusal.Refusal.{Refusal}
use Rattle.keep_sqlite.specs.declared.refusal.Refusal.TheVariants.{Memory, InUse, CannotOpen, NoStore, DiskFull, DiskFailed, Shut, Other}

abbrev refusal_at : ErrorCode → Refusal
refusal_at OutOfMemory = Memory
refusal_at DatabaseBusy = InUse
refusal_at code.CannotOpen = CannotOpen
refusal_at NotADatabase = NoStore
refusal_at DatabaseCorrupt = NoStore
refusal_at code.DiskFull = DiskFull
refusal_at SystemIoFailure = DiskFailed
refusal_at Closed = Shut
refusal_at _ = Other

-- which refusal an error of the database is
abbrev pub refusal_of : Error → Refusal
refusal_of (SqliteFailure code) = refusal_at code
refusal_of _ = Other

-- want of memory as such, and anything else as a failure of the keeper
abbrev pub fault_of : Refusal → KeepFault
fault_of Memory = fault.Memory
fault_of _ = fault.Failed

-- what a keeper answers
abbrev pub told_of : {A : Type 0} → Result A Refusal → Result A KeepFault
told_of (Ok a) = Ok a
told_of (Err refusal) = Err (fault_of refusal)

-- why it was refused, where it was
abbrev pub refused : {A : Type 0} → Result A Refusal → Option Refusal
refused (Ok a) = None
refused (Err refusal) = Some refusal

-- whether an answer is a failure of the keeper
abbrev pub has_failed : {A : Type 0} → Result A Refusal → Bool
has_failed answer = keeper.has_failed (told_of answer)

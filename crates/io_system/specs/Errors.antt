-- What a spool makes of an error of the system.
use Rattle.std.specs.Prelude.{Option, Some, None}
use Rattle.std.specs.IoError.{error_kind}
use Rattle.std.specs.declared.io.Error.{Error}
use Rattle.std.specs.declared.io.ErrorKind.{ErrorKind}
use Rattle.std.specs.declared.io.ErrorKind.TheVariants.{OutOfMemory, InvalidFilename}
use Rattle.mud_world.specs.declared.fault.SpoolFault.{SpoolFault}
use Rattle.mud_world.specs.declared.fault.SpoolFault.TheVariants as fault
use Rattle.io_system.specs.declared.spool.Trouble.{Trouble}
use Rattle.io_system.specs.declared.spool.Trouble.TheVariants.{Memory, System}

abbrev trouble_at : ErrorKind → Error → Trouble
trouble_at OutOfMemory error = Memory
trouble_at _ error = System error

-- want of memory is told apart from all that failed
abbrev pub trouble_of : Error → Trouble
trouble_of error = trouble_at (error_kind error) error

abbrev name_trouble_at : ErrorKind → Error → Option Trouble
name_trouble_at InvalidFilename error = None
name_trouble_at OutOfMemory error = Some Memory
name_trouble_at _ error = Some (System error)

-- an entry whose name isn't UTF-8 has no name, and any other that can't be read is a failure of the folder
abbrev pub name_trouble_of : Error → Option Trouble
name_trouble_of error = name_trouble_at (error_kind error) error

-- what a spool answers
abbrev pub fault_of : Trouble → SpoolFault
fault_of Memory = fault.Memory
fault_of (System error) = fault.Failed

-- Which call of the door failed.
use Rattle.std.specs.Prelude.{Bool, true, false, Result, Ok, Err}
use Rattle.http_requests.specs.declared.next.DoorFault.{DoorFault}
use Rattle.http_requests.specs.declared.next.DoorFault.TheVariants.{Read, Write}

abbrev pub is_read_failed : {A : Type 0} → Result A DoorFault → Bool
is_read_failed (Ok a) = false
is_read_failed (Err Read) = true
is_read_failed (Err Write) = false

abbrev pub is_write_failed : {A : Type 0} → Result A DoorFault → Bool
is_write_failed (Ok a) = false
is_write_failed (Err Read) = false
is_write_failed (Err Write) = true

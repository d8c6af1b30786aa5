-- What is read of a door, or written to it, by as many calls as it takes.
use Rattle.std.specs.Prelude.{◌≡◌, ℕ, ◌+◌, ◌<◌, ◌≤◌, Bool, true, false, List, [], length, take, Result, Ok, Err}
use Rattle.mud_world.specs.declared.whole.ReadFault.{ReadFault}
use Rattle.mud_world.specs.declared.whole.ReadFault.TheVariants.{Failed, Memory}
use Rattle.mud_world.specs.Door.{DoorState, Took, put_out}

-- A first part of the line was written, and not all of it.
pub record WrotePart (line : List ℕ) (old new : DoorState) : Type 0 where
  pub count : ℕ
  pub part : count < length line
  pub wrote : new ≡ put_out (take count line) old

-- The connection was read to its end, or one octet more than the most was taken.
pub record ReadWhole (octets : List ℕ) (most : ℕ) (old new : DoorState) : Type 0 where
  pub took : Took octets old new
  pub within : length octets ≤ most + 1
  pub ended : length octets ≤ most → new.left ≡ []

-- Some octets were taken, at most so many.
pub record TookPart (most : ℕ) (old new : DoorState) : Type 0 where
  pub octets : List ℕ
  pub took : Took octets old new
  pub within : length octets ≤ most

-- whether the door failed
abbrev pub has_failed : {A : Type 0} → Result A ReadFault → Bool
has_failed (Ok a) = false
has_failed (Err Failed) = true
has_failed (Err Memory) = false

-- What is taken of a source, and what that makes of the packets to come.
use Rattle.std.specs.Prelude.{◌≡◌, ℕ, ◌+◌, ◌<◌, Bool, false, List, ◌++◌, length, Option, Some, None}
use Rattle.mud_world.specs.Door.{DoorState, Took}
use Rattle.read_buffer.specs.Reading as sources
use Rattle.pcapng_read.specs.declared.fault.NgFault.{NgFault}
use Rattle.pcapng_read.specs.Fault.{is_cut, is_read_fault}
use Rattle.pcapng_read.specs.Blocks.{NgPackets}

-- Octets were taken of the source, and no packet comes in them: this fault does, or the source failed.
abbrev pub EndsIn : NgFault → (List ℕ → NgPackets) → DoorState → DoorState → Type 0
EndsIn fault before old new = sources.EndsIn is_read_fault is_cut fault before old new

-- Octets were taken of the source. Of these and of those held before, some in front were passed over, and so many more are to be
-- passed over to make the count; the others are held.
pub record Passes (count left : ℕ) (before after : List ℕ) (old new : DoorState) : Type 0 where
  pub octets : List ℕ
  pub took : Took octets old new
  pub front : List ℕ
  pub size : length front + left ≡ count
  pub same : before ++ octets ≡ front ++ after

-- Octets were taken of the source. With those held before, they are fewer than the count.
pub record FallsShort (count : ℕ) (before : List ℕ) (old new : DoorState) : Type 0 where
  pub octets : List ℕ
  pub took : Took octets old new
  pub short : length (before ++ octets) < count

-- whether the source failed in a call, where there was no fault before
abbrev pub fails : Option NgFault → Bool → Bool
fails None failed = failed
fails (Some fault) failed = false

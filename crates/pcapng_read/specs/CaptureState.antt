-- What a capture keeps beside its source.
use Rattle.std.specs.Prelude.{◌≡◌, ℕ, Bool, true, List, [], ◌++◌, Option, Some, None}
use Rattle.mud_world.specs.Door.{DoorState}
use Rattle.read_buffer.specs.Packets.{Packet, whole}
use Rattle.pcapng_read.specs.declared.fault.NgFault.{NgFault}
use Rattle.pcapng_read.specs.declared.standing.Standing.{Standing}
use Rattle.pcapng_read.specs.Blocks as blocks
use Rattle.pcapng_read.specs.Blocks.{NgPackets}
use Rattle.pcapng_read.specs.Parts.{coming, is_decided}

-- where it stands between two blocks, the fault that was answered, if any, the octets that it took of the source and didn't hand
-- out, and the packet at which it stands
pub record NgState : Type 0 where
  pub fault : Option NgFault
  pub standing : Standing
  pub held : List ℕ
  pub packet : Option Packet

abbrev pub at_start : NgState
at_start = record { fault = None; standing = blocks.at_start; held = []; packet = None }

-- the same with octets that were taken of the source before
abbrev pub at_start_holding : List ℕ → NgState
at_start_holding octets = record at_start { held = octets }

-- The packets that are to come, and their end, where these octets come behind those held.
abbrev pub to_come : NgState → List ℕ → NgPackets
to_come taken octets = coming taken.fault taken.standing (taken.held ++ octets)

-- whether the next packet is known without a read
abbrev pub is_ready_at : Option NgFault → Standing → List ℕ → Bool
is_ready_at None at held = is_decided at.section.order held
is_ready_at (Some fault) at held = true

abbrev pub is_ready : NgState → Bool
is_ready taken = is_ready_at taken.fault taken.standing taken.held

-- Nothing is held, nothing is left of the source, and no packet comes.
pub record AtEnd (taken : NgState) (source : DoorState) : Type 0 where
  pub held : taken.held ≡ []
  pub left : source.left ≡ []
  pub ended : to_come taken [] ≡ whole

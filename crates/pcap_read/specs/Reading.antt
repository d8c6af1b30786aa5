-- What is taken of a source, and what that makes of the packets to come.
use Rattle.std.specs.Prelude.{ℕ, ◌+◌, ◌*◌, ◌≤◌, Bool, false, List}
use Rattle.mud_world.specs.Door.{DoorState}
use Rattle.read_buffer.specs.Reading as sources
use Rattle.pcap_read.specs.declared.fault.CapFault.{CapFault}
use Rattle.pcap_read.specs.Fault.{is_cut, is_read_fault}
use Rattle.pcap_read.specs.declared.stage.Stage.{Stage}
use Rattle.pcap_read.specs.declared.stage.Stage.TheVariants.{Start, Reading, Failed}
use Rattle.pcap_read.specs.declared.stage.Progress.{Progress}
use Rattle.pcap_read.specs.Packets.{Packets}

-- Octets were taken of the source, and no packet comes in them: this fault does, or the source failed.
abbrev pub EndsIn : CapFault → (List ℕ → Packets) → DoorState → DoorState → Type 0
EndsIn fault before old new = sources.EndsIn is_read_fault is_cut fault before old new

-- The numbers of packets and octets stay in their bounds.
pub record IsWithin (progress : Progress) : Type 0 where
  pub few : progress.count ≤ 100000000
  pub near : progress.offset ≤ 24 + 262160 * progress.count

-- whether the source failed in a call, where it hadn't failed before
abbrev pub fails : Stage → Bool → Bool
fails Start failed = failed
fails (Reading order) failed = failed
fails (Failed fault) failed = false

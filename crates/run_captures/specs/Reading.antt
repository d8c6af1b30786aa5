-- What a reader of a capture has taken of its source, and what that makes of the packets to come, in whichever format.
use Rattle.std.specs.Prelude.{◌≡◌, ℕ, Bool, List, [], ◌++◌, Option, Some, is_some}
use Rattle.mud_world.specs.Door.{DoorState, Took}
use Rattle.read_buffer.specs.Packets.{Packet, whole, with_all}
use Rattle.read_buffer.specs.Reading as sources
use Rattle.pcap_read.specs.Parts as classic
use Rattle.pcap_read.specs.Reading as classic_reading
use Rattle.pcap_read.specs.CaptureState as classic_taken
use Rattle.pcapng_read.specs.Parts as next
use Rattle.pcapng_read.specs.Reading as next_reading
use Rattle.pcapng_read.specs.CaptureState as next_taken
use Rattle.pcap_read.specs.declared.stage.Stage.TheVariants.{Failed}
use Rattle.run_captures.specs.Captures.{Captures, captured_of, with_fault}
use Rattle.run_captures.specs.Fault.{is_cut, is_read_fault}
use Rattle.run_captures.specs.declared.fault.CaptureFault.{CaptureFault}
use Rattle.run_captures.specs.declared.fault.CaptureFault.TheVariants as fault
use Rattle.run_captures.specs.declared.reader.CaptureReader.{CaptureReader}
use Rattle.run_captures.specs.declared.reader.CaptureReader.TheVariants.{Classic, Next}

-- the packet at which a reader stands, if any
abbrev pub packet_at : CaptureReader → Option Packet
packet_at (Classic taken) = taken.packet
packet_at (Next taken) = taken.packet

-- The packets that are to come, and their end, where these octets come behind those that it holds.
abbrev pub to_come : CaptureReader → List ℕ → Captures
to_come (Classic taken) octets = with_fault fault.Classic (classic_taken.to_come taken octets)
to_come (Next taken) octets = with_fault fault.Next (next_taken.to_come taken octets)

-- whether there was a fault
abbrev pub is_broken : CaptureReader → Bool
is_broken (Classic taken) = classic.is_broken taken.progress.stage
is_broken (Next taken) = is_some taken.fault

-- There was this fault.
abbrev pub StandsBehind : CaptureFault → CaptureReader → Type 0
StandsBehind (fault.Classic fault) (Classic taken) = taken.progress.stage ≡ Failed fault
StandsBehind (fault.Next fault) (Next taken) = taken.fault ≡ Some fault
StandsBehind (fault.Classic fault) (Next taken) = ⊥
StandsBehind (fault.Next fault) (Classic taken) = ⊥

-- How many packets or blocks can come at most, and one more before the header is read: so a caller's loop over packets ends.
abbrev pub most_to_come : CaptureReader → ℕ
most_to_come (Classic taken) = classic.most_to_come taken.progress
most_to_come (Next taken) = next.most_to_come taken.fault taken.standing

-- whether what comes next is known without a read
abbrev pub is_ready : CaptureReader → Bool
is_ready (Classic taken) = classic_taken.is_ready taken
is_ready (Next taken) = next_taken.is_ready taken

-- whether the source failed in a call, where it hadn't failed before
abbrev pub fails : CaptureReader → Bool → Bool
fails (Classic taken) failed = classic_reading.fails taken.progress.stage failed
fails (Next taken) failed = next_reading.fails taken.fault failed

-- Nothing is left of the source, and no packet comes.
pub record AtEnd (reader : CaptureReader) (source : DoorState) : Type 0 where
  pub left : source.left ≡ []
  pub ended : to_come reader [] ≡ whole

-- Octets were taken of the source, and no packet comes in them: this fault does, or the source failed.
abbrev pub EndsIn : CaptureFault → (List ℕ → Captures) → DoorState → DoorState → Type 0
EndsIn fault before old new = sources.EndsIn is_read_fault is_cut fault before old new

-- These packets were read since the source stood at the first of the two states. However far the source goes on in what is left
-- of it, they are the first packets of the octets taken since then, and the others are to come.
pub record HasRead (packets : List Packet) (reader : CaptureReader) (first now : DoorState) : Type 0 where
  pub octets : List ℕ
  pub took : Took octets first now
  pub same : (more rest : List ℕ) → now.left ≡ more ++ rest → captured_of (octets ++ more) ≡ with_all packets (to_come reader more)

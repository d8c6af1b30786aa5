-- What a capture keeps beside its source.
use Rattle.std.specs.Prelude.{◌≡◌, ℕ, Bool, List, [], ◌++◌, Option, None}
use Rattle.mud_world.specs.Door.{DoorState}
use Rattle.pcap_read.specs.declared.stage.Stage.TheVariants.{Start}
use Rattle.pcap_read.specs.declared.stage.Progress.{Progress}
use Rattle.read_buffer.specs.Packets.{Packet, whole}
use Rattle.pcap_read.specs.Packets.{Packets}
use Rattle.pcap_read.specs.Parts.{coming, is_ready_at}

-- where it stands, the octets that it took of the source and didn't hand out, and the packet at which it stands
pub record CaptureState : Type 0 where
  pub progress : Progress
  pub held : List ℕ
  pub packet : Option Packet

abbrev pub at_start : CaptureState
at_start = record { progress = record { stage = Start; count = 0; offset = 0 }; held = []; packet = None }

-- the same with octets that were taken of the source before
abbrev pub at_start_holding : List ℕ → CaptureState
at_start_holding octets = record at_start { held = octets }

-- The packets that are to come, and their end, where these octets come behind those held.
abbrev pub to_come : CaptureState → List ℕ → Packets
to_come taken octets = coming taken.progress (taken.held ++ octets)

-- whether the next packet, or the end of the packets, is known without a read
abbrev pub is_ready : CaptureState → Bool
is_ready taken = is_ready_at taken.progress.stage taken.progress.count taken.held

-- Nothing is held, nothing is left of the source, and no packet comes.
pub record AtEnd (taken : CaptureState) (source : DoorState) : Type 0 where
  pub held : taken.held ≡ []
  pub left : source.left ≡ []
  pub ended : to_come taken [] ≡ whole

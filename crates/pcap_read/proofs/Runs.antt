-- The packet that came is the first of those that were to come.
use Rattle.std.proofs.Common.{◌≡◌, Option, Some, ap, ◌∙◌}
use Rattle.mud_world.specs.Door.{DoorState}
use Rattle.read_buffer.specs.Packets.{Packet, with_packet, with_next}
use Rattle.read_buffer.specs.Reading.{Follows}
use Rattle.pcap_read.specs.Packets.{Packets}
use Rattle.pcap_read.specs.CaptureState.{CaptureState, to_come}

pub first_of_all : (old new : CaptureState) (packet : Packet) (s t : DoorState) → Follows (to_come old) (λ more. with_next new.packet (to_come new more)) s t → new.packet ≡ Some packet
    → (later : Packets) × (to_come old s.left ≡ with_packet packet later)
first_of_all old new packet s t p is = (
  to_come new t.left,
  ap (to_come old) p.took.left ∙ p.same t.left ∙ ap (λ (next : Option Packet). with_next next (to_come new t.left)) is,
)

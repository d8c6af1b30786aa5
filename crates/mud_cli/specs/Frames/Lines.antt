-- The line of a packet. It ends with a line feed.
use Rattle.std.specs.Prelude.{ℕ, List, [], ◌++◌, codes, decimal}
use Rattle.mud_base.specs.Texts.{addr_text}
use Rattle.mud_base.specs.declared.packet.Fields.{Fields}
use Rattle.mud_base.specs.declared.packet.Transport.{Transport}
use Rattle.mud_base.specs.declared.packet.Transport.TheVariants.{Tcp, Udp, Icmp, Absent}
use Rattle.frame_view.specs.Frame.{frame_of}
use Rattle.frame_view.specs.declared.views.Frame.{Frame}
use Rattle.frame_view.specs.declared.views.Frame.TheVariants as frame
use Rattle.read_buffer.specs.Packets.{Packet}
use Rattle.run_captures.specs.Fold.{LineStep}
use Rattle.text_values.specs.Numbers.{number_text}
use Rattle.desk_model.specs.Texts.Verdicts.{unreadable_text}

-- the ports and the octet of flags, or the type and the code
unfoldable pub transport_text : Transport → List ℕ
transport_text (Tcp from to flags) = codes " tcp" ++ number_text from ++ number_text to ++ number_text flags
transport_text (Udp from to) = codes " udp" ++ number_text from ++ number_text to
transport_text (Icmp kind code) = codes " icmp" ++ number_text kind ++ number_text code
transport_text Absent = []

-- the two addresses, the protocol number and the transport header
unfoldable pub fields_text : Fields → List ℕ
fields_text fields = codes " packet " ++ addr_text fields.src ++ codes " " ++ addr_text fields.dst ++ number_text fields.protocol ++ transport_text fields.transport

unfoldable pub frame_text : Frame → List ℕ
frame_text (frame.Link octets) = codes " link"
frame_text (frame.Unreadable octets part) = unreadable_text part
frame_text (frame.Packet packet) = fields_text packet.fields

-- the number and the seconds of a packet, and what its frame is
unfoldable pub packet_line : Packet → List ℕ
packet_line packet = decimal packet.number ++ number_text packet.seconds ++ frame_text (frame_of packet.octets) ++ codes "\n"

-- the line of a packet, whatever packets came before it
abbrev pub frame_step : Unit {0} → Packet → LineStep (Unit {0})
frame_step nothing packet = record { line = packet_line packet; next = nothing }

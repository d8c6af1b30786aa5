-- A packet that is lent.
use Rattle.pcap_read.specs.declared.reader.Captured.{Captured}
use Rattle.read_buffer.specs.Packets.{Packet}

abbrev pub packet_of : Captured → Packet
packet_of packet = record { number = packet.number; offset = packet.at; seconds = packet.seconds; octets = packet.octets.now }

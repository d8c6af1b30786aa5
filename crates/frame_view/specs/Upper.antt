-- The header of the upper layer, which begins with the first of these octets.
use Rattle.std.specs.Prelude.{ℕ, ◌/◌, ◌&&◌, ◌==◌, nat_le, List, [], length, drop, slice_index, Result, Ok, Err, if◌then◌else◌}
use Rattle.mud_base.specs.declared.packet.Transport.{Transport}
use Rattle.mud_base.specs.declared.packet.Transport.TheVariants.{Tcp, Udp, Icmp, Absent}
use Rattle.mud_base.specs.Numbers.{big_16}
use Rattle.frame_view.specs.declared.views.Part.{Part}
use Rattle.frame_view.specs.declared.views.Part.TheVariants as part

-- the upper layer of a packet: its protocol's number, what its header says, and what it holds behind that
pub record Upper : Type 0 where
  pub protocol : ℕ
  pub transport : Transport
  pub payload : List ℕ

-- where the fields stand that are read
pub record Offsets : Type 0 where
  -- in the headers of TCP and UDP (RFC 9293, 3.1; RFC 768)
  pub source_port : ℕ
  pub destination_port : ℕ
  -- of TCP alone, where the data offset is the upper half of its octet
  pub data_field : ℕ
  pub flags : ℕ
  -- of UDP alone: the octet behind the header
  pub datagram : ℕ
  -- and in an ICMP message (RFC 792; RFC 4443, 2.1)
  pub icmp_type : ℕ
  pub icmp_code : ℕ

abbrev pub offsets : Offsets
offsets = record {
  source_port = 0;
  destination_port = 2;
  data_field = 12;
  flags = 13;
  datagram = 8;
  icmp_type = 0;
  icmp_code = 1;
}

-- Twenty octets, with a data offset of at least five words (RFC 9293, 3.1). Options aren't looked for.
unfoldable pub tcp : List ℕ → Result Transport Part
tcp octets =
    if nat_le 20 (length octets) && nat_le 5 (slice_index octets offsets.data_field / 16)
    then Ok (Tcp (big_16 offsets.source_port octets) (big_16 offsets.destination_port octets) (slice_index octets offsets.flags))
    else Err part.Transport

-- A whole header. The length that it names isn't used.
unfoldable pub udp : List ℕ → Result Transport Part
udp octets =
    if nat_le offsets.datagram (length octets)
    then Ok (Udp (big_16 offsets.source_port octets) (big_16 offsets.destination_port octets))
    else Err part.Transport

-- What a datagram of UDP holds: all that counts behind its header. The length that it names isn't used. Of another transport
-- nothing is said.
unfoldable pub payload_of : Transport → List ℕ → List ℕ
payload_of (Udp source destination) octets = drop offsets.datagram octets
payload_of _ octets = []

-- type, code and checksum (RFC 792; RFC 4443, 2.1)
unfoldable pub icmp : List ℕ → Result Transport Part
icmp octets =
    if nat_le 4 (length octets)
    then Ok (Icmp (slice_index octets offsets.icmp_type) (slice_index octets offsets.icmp_code))
    else Err part.Transport

-- By the protocol's number, where ICMP has the number `icmp_number`. Of another protocol nothing is read.
unfoldable pub transport_of : ℕ → ℕ → List ℕ → Result Transport Part
transport_of icmp_number protocol octets =
    if protocol == 6 then (tcp octets)
    else (if protocol == 17 then (udp octets)
    else (if protocol == icmp_number then (icmp octets) else (Ok Absent)))

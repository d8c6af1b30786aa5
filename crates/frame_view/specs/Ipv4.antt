-- An IPv4 packet (RFC 791, 3.1), from the first octet of its header on.
use Rattle.std.specs.Prelude.{ℕ, ◌*◌, ◌/◌, ◌%◌, Bool, false, not, ◌&&◌, ◌||◌, ◌==◌, nat_le, List, length, take, drop, slice_index, Option, Some, None, Result, Ok, Err, if◌then◌else◌}
use Rattle.mud_base.specs.declared.addr.Addr.{Addr}
use Rattle.mud_base.specs.declared.addr.Addr.TheVariants.{V4, V6}
use Rattle.mud_base.specs.declared.packet.Fields.{Fields}
use Rattle.mud_base.specs.declared.packet.Transport.{Transport}
use Rattle.mud_base.specs.declared.packet.Transport.TheVariants.{Udp, Absent}
use Rattle.mud_base.specs.Numbers.{big_16, big_32}
use Rattle.frame_view.specs.declared.views.Part.{Part}
use Rattle.frame_view.specs.declared.views.Part.TheVariants as part
use Rattle.frame_view.specs.Steps.{◌>>=◌}
use Rattle.frame_view.specs.Traffic.{codepoint, congestion}
use Rattle.frame_view.specs.PacketFrame.{Contents}
use Rattle.frame_view.specs.Upper.{transport_of, payload_of}

-- where the fields of the header stand
pub record Offsets : Type 0 where
  -- the version is the upper half of the octet, the header's length the lower half
  pub version_and_length : ℕ
  pub type_of_service : ℕ
  pub total_length : ℕ
  -- three bits of flags, and thirteen of the offset
  pub fragment_field : ℕ
  pub time_to_live : ℕ
  pub protocol : ℕ
  pub source : ℕ
  pub destination : ℕ

abbrev pub offsets : Offsets
offsets = record {
  version_and_length = 0;
  type_of_service = 1;
  total_length = 2;
  fragment_field = 6;
  time_to_live = 8;
  protocol = 9;
  source = 12;
  destination = 16;
}

-- how many octets the header has: its length counts words of four octets
unfoldable pub header_len : List ℕ → ℕ
header_len packet = slice_index packet offsets.version_and_length % 16 * 4

-- what counts: up to the end that the total length names, or the frame's end where that is first
unfoldable pub counted : List ℕ → List ℕ
counted packet = take (big_16 offsets.total_length packet) packet

-- version 4, and a header of at least five words, all of it among what counts
unfoldable pub has_header : List ℕ → Bool
has_header packet =
    slice_index packet offsets.version_and_length / 16 == 4 && nat_le least_header (header_len packet) && nat_le (header_len packet) (length (counted packet))
  where
    -- how many octets the header has at least
    least_header : ℕ
    least_header = 20

-- the fragment offset isn't 0
unfoldable pub is_later_fragment : List ℕ → Bool
is_later_fragment packet = not (big_16 offsets.fragment_field packet % 8192 == 0)

-- what counts behind the header
abbrev pub upper_octets : List ℕ → List ℕ
upper_octets packet = drop (header_len packet) (counted packet)

-- what the header of the upper layer says, which only the first fragment has
unfoldable pub transport_in : List ℕ → Result Transport Part
transport_in packet =
    if is_later_fragment packet then (Ok Absent)
    else (transport_of 1 (slice_index packet offsets.protocol) (upper_octets packet))

unfoldable pub fields_of : List ℕ → Result Fields Part
fields_of packet = if has_header packet then (transport_in packet >>= λ transport. Ok (fields_with packet transport)) else (Err part.Ip)
  where
    fields_with : List ℕ → Transport → Fields
    fields_with packet transport = record {
      src = V4 (big_32 offsets.source packet);
      dst = V4 (big_32 offsets.destination packet);
      protocol = slice_index packet offsets.protocol;
      dscp = codepoint (slice_index packet offsets.type_of_service);
      ecn = congestion (slice_index packet offsets.type_of_service);
      length = big_16 offsets.total_length packet;
      ttl = slice_index packet offsets.time_to_live;
      transport = transport;
    }

-- DHCP on the link itself (RFC 2131, 4.1): from a server to a client, or from a client without an address or to all
unfoldable pub is_upkeep : Fields → Bool
is_upkeep fields =
    is_udp 67 68 fields.transport
    || (is_udp 68 67 fields.transport && (is_v4 0 fields.src || is_v4 0xFFFF_FFFF fields.dst))
  where
    is_udp : ℕ → ℕ → Transport → Bool
    is_udp from to (Udp source destination) = source == from && destination == to
    is_udp from to _ = false

    is_v4 : ℕ → Addr → Bool
    is_v4 number (V4 n) = n == number
    is_v4 number (V6 n) = false

-- the packet's contents, or None where it keeps the link up
unfoldable pub packet_of : List ℕ → Result (Option Contents) Part
packet_of packet = fields_of packet >>= λ fields. Ok (if is_upkeep fields then None else (Some (contents_with packet fields)))
  where
    contents_with : List ℕ → Fields → Contents
    contents_with packet fields = record { fields = fields; payload = payload_of fields.transport (upper_octets packet) }

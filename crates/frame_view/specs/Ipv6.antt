-- An IPv6 packet (RFC 8200), from the first octet of its header on.
use Rattle.std.specs.Prelude.{ℕ, suc, zero, ◌+◌, ◌*◌, ◌/◌, ◌%◌, Bool, false, not, ◌&&◌, ◌||◌, ◌==◌, nat_le, nat_lt, List, [], length, take, drop, slice_index, Option, Some, None, Result, Ok, Err, if◌then◌else◌}
use Rattle.mud_base.specs.declared.addr.Addr.TheVariants.{V6}
use Rattle.mud_base.specs.declared.packet.Fields.{Fields}
use Rattle.mud_base.specs.declared.packet.Transport.{Transport}
use Rattle.mud_base.specs.declared.packet.Transport.TheVariants.{Icmp, Absent}
use Rattle.mud_base.specs.Numbers.{big_16, big_128}
use Rattle.frame_view.specs.declared.views.Part.{Part}
use Rattle.frame_view.specs.declared.views.Part.TheVariants as part
use Rattle.frame_view.specs.Steps.{◌>>=◌}
use Rattle.frame_view.specs.Traffic.{codepoint, congestion}
use Rattle.frame_view.specs.PacketFrame.{Contents}
use Rattle.frame_view.specs.Upper.{Upper, transport_of, payload_of}

-- Where the fields of the header stand, and the octet behind it (section 3). It begins with four bits of version, eight of traffic
-- class and twenty of flow label.
pub record Offsets : Type 0 where
  pub version : ℕ
  -- of the lower half of the traffic class: its upper half is that of the octet before
  pub traffic_class : ℕ
  pub payload_length : ℕ
  pub next_header : ℕ
  pub hop_limit : ℕ
  pub source : ℕ
  pub destination : ℕ
  pub behind : ℕ

abbrev pub offsets : Offsets
offsets = record {
  version = 0;
  traffic_class = 1;
  payload_length = 4;
  next_header = 6;
  hop_limit = 7;
  source = 8;
  destination = 24;
  behind = 40;
}

-- Where the fields of an extension header stand (4.3 to 4.6): the number of the next one, the length, which a fragment header
-- hasn't, and the offset that a fragment header has in the upper 13 bits of two octets.
pub record ExtensionOffsets : Type 0 where
  pub next_header : ℕ
  pub length : ℕ
  pub fragment_field : ℕ

abbrev pub extension : ExtensionOffsets
extension = record { next_header = 0; length = 1; fragment_field = 2 }

-- version 6, and forty octets (section 3)
unfoldable pub has_header : List ℕ → Bool
has_header packet = nat_le offsets.behind (length packet) && slice_index packet offsets.version / 16 == 6

-- What counts behind the header: up to the end that the payload length names, or the frame's end where that is first.
-- A payload length of 0 leaves nothing.
unfoldable pub payload : List ℕ → List ℕ
payload packet = take (big_16 offsets.payload_length packet) (drop offsets.behind packet)

-- an extension header: hop-by-hop options, routing, fragment or destination options (4.3 to 4.6)
unfoldable pub is_extension : ℕ → Bool
is_extension number = number == 0 || number == 43 || number == 44 || number == 60

-- how many octets it has: a fragment header eight, another one eight for its first word and for each that it counts
unfoldable pub extension_len : ℕ → List ℕ → ℕ
extension_len number octets = if number == 44 then 8 else ((slice_index octets extension.length + 1) * 8)

-- it ends behind what counts
unfoldable pub is_cut : ℕ → List ℕ → Bool
is_cut number octets = nat_lt (length octets) (extension_len number octets)

-- a fragment header whose offset isn't 0 (4.5)
unfoldable pub is_later_fragment : ℕ → List ℕ → Bool
is_later_fragment number octets = number == 44 && not (big_16 extension.fragment_field octets / 8 == 0)

-- the upper layer, where its number is this
unfoldable pub upper_layer : ℕ → List ℕ → Result Upper Part
upper_layer number octets = transport_of 58 number octets >>= λ transport. Ok (upper_with number octets transport)
  where
    upper_with : ℕ → List ℕ → Transport → Upper
    upper_with number octets transport = record { protocol = number; transport = transport; payload = payload_of transport octets }

-- The upper layer behind so many extension headers at most, where a header with this number stands first. Each one
-- begins with the number of the next. A later fragment holds no header behind its own, so the walk ends there.
unfoldable pub upper_behind : ℕ → ℕ → List ℕ → Result Upper Part
upper_behind zero number octets = if is_extension number then (Err part.Extension) else (upper_layer number octets)
upper_behind (suc left) number octets =
    if not (is_extension number) then (upper_layer number octets)
    else (if is_cut number octets then (Err part.Extension)
    else (if is_later_fragment number octets then (Ok (later_part (slice_index octets extension.next_header)))
    else (upper_behind left (slice_index octets extension.next_header) (drop (extension_len number octets) octets))))
  where
    -- the upper layer of a later fragment, of which the number alone is known
    later_part : ℕ → Upper
    later_part number = record { protocol = number; transport = Absent; payload = [] }

-- the upper layer behind eight extension headers at most
unfoldable pub upper_in : List ℕ → Result Upper Part
upper_in packet = upper_behind 8 (slice_index packet offsets.next_header) (payload packet)

-- the traffic class: the eight bits behind the version's four, the lower half of octet 0 and the upper half of octet 1
-- (section 3)
unfoldable pub traffic_class : List ℕ → ℕ
traffic_class packet = slice_index packet offsets.version % 16 * 16 + slice_index packet offsets.traffic_class / 16

unfoldable pub contents_of : List ℕ → Result Contents Part
contents_of packet = if has_header packet then (upper_in packet >>= λ upper. Ok (contents_with packet upper)) else (Err part.Ip)
  where
    fields_with : List ℕ → Upper → Fields
    fields_with packet upper = record {
      src = V6 (big_128 offsets.source packet);
      dst = V6 (big_128 offsets.destination packet);
      protocol = upper.protocol;
      dscp = codepoint (traffic_class packet);
      ecn = congestion (traffic_class packet);
      length = big_16 offsets.payload_length packet;
      ttl = slice_index packet offsets.hop_limit;
      transport = upper.transport;
    }

    contents_with : List ℕ → Upper → Contents
    contents_with packet upper = record { fields = fields_with packet upper; payload = upper.payload }

-- neighbour discovery, whose messages have these types and count with a hop limit of 255 alone (RFC 4861, 4, 6.1, 7.1 and
-- 8.1)
unfoldable pub is_upkeep : ℕ → Transport → Bool
is_upkeep hop_limit (Icmp kind code) = nat_le 133 kind && nat_le kind 137 && hop_limit == 255
is_upkeep hop_limit _ = false

-- the packet's contents, or None where it keeps the link up
unfoldable pub packet_of : List ℕ → Result (Option Contents) Part
packet_of packet = contents_of packet >>= λ contents. Ok (if is_kept_up packet contents then None else (Some contents))
  where
    is_kept_up : List ℕ → Contents → Bool
    is_kept_up packet contents = is_upkeep (slice_index packet offsets.hop_limit) contents.fields.transport

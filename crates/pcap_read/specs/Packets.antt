-- The packets of a capture in the classic format of libpcap, version 2.4 (draft-ietf-opsawg-pcap).
use Rattle.std.specs.Prelude.{ℕ, zero, suc, ◌+◌, ◌==◌, nat_lt, nat_le, Bool, not, ◌||◌, ◌&&◌, if◌then◌else◌, List, [], ◌∷◌, length, take, drop, Option, Some, None, Result, Ok, Err}
use Rattle.mud_base.specs.Faults.{row, unless}
use Rattle.mud_base.specs.Numbers.{number_16, number_32}
use Rattle.mud_base.specs.declared.number.ByteOrder.{ByteOrder}
use Rattle.mud_base.specs.declared.number.ByteOrder.TheVariants.{Big, Little}
use Rattle.read_buffer.specs.Packets.{Told, whole, broken, with_packet}
use Rattle.pcap_read.specs.declared.fault.CapFault.{CapFault}
use Rattle.pcap_read.specs.declared.fault.CapFault.TheVariants as faults

-- the packets of a capture, and why they end
abbrev pub Packets : Type 0
Packets = Told CapFault

-- where the fields stand that are read
pub record Offsets : Type 0 where
  -- In the header (section 4): the magic number, which tells the order of the octets of all numbers, the version, and the link type.
  pub magic : ℕ
  pub major_version : ℕ
  pub minor_version : ℕ
  pub link_type : ℕ
  -- in a packet's head (section 5): its seconds, and how many octets were captured
  pub seconds : ℕ
  pub captured_len : ℕ

abbrev pub offsets : Offsets
offsets = record { magic = 0; major_version = 4; minor_version = 6; link_type = 20; seconds = 0; captured_len = 8 }

-- how many octets the header has, and a packet's head
abbrev pub header_len : ℕ
header_len = 24

abbrev pub head_len : ℕ
head_len = 16

-- the magic numbers of captures in microseconds and in nanoseconds
unfoldable pub has_magic : ByteOrder → List ℕ → Bool
has_magic order header = number_32 order offsets.magic header == 0xA1B2C3D4 || number_32 order offsets.magic header == 0xA1B23C4D

-- the order of the octets of all numbers, or what is wrong with the header
unfoldable pub header_of : List ℕ → Result ByteOrder CapFault
header_of header = header_by (order_in header) header
  where
    is_ethernet : ByteOrder → List ℕ → Bool
    is_ethernet order header = number_32 order offsets.link_type header == 1

    order_in : List ℕ → Option ByteOrder
    order_in header = if has_magic Big header then Some Big else (if has_magic Little header then Some Little else None)

    is_version_2_4 : ByteOrder → List ℕ → Bool
    is_version_2_4 order header = number_16 order offsets.major_version header == 2 && number_16 order offsets.minor_version header == 4

    header_by : Option ByteOrder → List ℕ → Result ByteOrder CapFault
    header_by None header = Err faults.Magic
    header_by (Some order) header =
        unless (
        row (not (is_version_2_4 order header)) faults.Version
        ∷ row (not (is_ethernet order header)) faults.LinkType
        ∷ [])
        (Ok order)

unfoldable pub captured_len : ByteOrder → List ℕ → ℕ
captured_len order head = number_32 order offsets.captured_len head

-- The packets in the octets from an offset on, behind so many packets, where the first so many octets are the rest of a packet.
unfoldable pub packets_from : ByteOrder → ℕ → ℕ → ℕ → List ℕ → Packets
packets_from order skipped count offset [] = whole
packets_from order (suc skipped) count offset (octet ∷ behind) = packets_from order skipped count (offset + 1) behind
packets_from order zero count offset (octet ∷ behind) =
    at_head order count offset (octet ∷ behind)
    (packets_from order (15 + captured_len order (take head_len (octet ∷ behind))) (count + 1) (offset + 1) behind)
  where
    -- The packet whose head begins these octets, behind so many packets, and those behind it. At most 100,000,000 packets are read,
    -- each of at most 262,144 octets.
    at_head : ByteOrder → ℕ → ℕ → List ℕ → Packets → Packets
    at_head order count offset octets later =
        if nat_le 100000000 count then broken faults.Many
        else (if nat_lt (length octets) head_len then broken (faults.Cut offset)
        else (if nat_lt 262144 (captured_len order (take head_len octets)) then broken (faults.Long offset)
        else (if nat_lt (length octets) (head_len + captured_len order (take head_len octets)) then broken (faults.Cut offset)
        else with_packet (record {
          number = count + 1;
          offset = offset;
          seconds = (number_32 order offsets.seconds (take head_len octets));
          octets = take (captured_len order (take head_len octets)) (drop head_len octets);
        }) later)))

-- the packets of a capture
unfoldable pub packets_of : List ℕ → Packets
packets_of octets =
    if nat_lt (length octets) header_len then broken (faults.Cut 0)
    else behind_header (header_of (take header_len octets)) (drop header_len octets)
  where
    behind_header : Result ByteOrder CapFault → List ℕ → Packets
    behind_header (Err fault) octets = broken fault
    behind_header (Ok order) octets = packets_from order 0 0 header_len octets

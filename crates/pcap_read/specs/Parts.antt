-- The packets that are to come, wherever a reader can stand.
use Rattle.std.specs.Prelude.{ℕ, ◌+◌, ◌-◌, ◌==◌, nat_lt, nat_le, Bool, true, false, not, ◌||◌, if◌then◌else◌, List, length, take, drop, Option, Some, None}
use Rattle.mud_base.specs.declared.number.ByteOrder.{ByteOrder}
use Rattle.pcap_read.specs.declared.fault.CapFault.TheVariants as faults
use Rattle.pcap_read.specs.declared.head.Head.{Head}
use Rattle.pcap_read.specs.declared.stage.Stage.{Stage}
use Rattle.pcap_read.specs.declared.stage.Stage.TheVariants.{Start, Reading, Failed}
use Rattle.pcap_read.specs.declared.stage.Cursor.{Cursor}
use Rattle.pcap_read.specs.declared.stage.Progress.{Progress}
use Rattle.pcap_read.specs.declared.stage.Current.{Current}
use Rattle.pcap_read.specs.declared.stage.Next.{Next}
use Rattle.read_buffer.specs.Packets.{Packet, broken, with_next, with_packet}
use Rattle.pcap_read.specs.Packets.{Packets, head_len, captured_len, packets_from, packets_of}

-- behind the head of a packet: its octets, and the packets that come then
unfoldable pub body_from : ByteOrder → ℕ → ℕ → ℕ → ℕ → List ℕ → Packets
body_from order count offset seconds len octets =
    if nat_lt (length octets) len then broken (faults.Cut offset)
    else with_packet (record { number = count + 1; offset = offset; seconds = seconds; octets = take len octets })
    (packets_from order 0 (count + 1) (offset + 16 + len) (drop len octets))

-- between two packets
abbrev pub packets_at : Cursor → List ℕ → Packets
packets_at cursor octets = packets_from cursor.order 0 cursor.count cursor.offset octets

-- behind a head, or between two packets where there is none
abbrev pub behind_head : Cursor → Option Head → List ℕ → Packets
behind_head cursor None octets = packets_at cursor octets
behind_head cursor (Some head) octets = body_from cursor.order cursor.count cursor.offset head.seconds head.len octets

-- with a packet that was given, or between two packets where there is none
abbrev pub behind_packet : Cursor → Option Head → List ℕ → List ℕ → Packets
behind_packet cursor None given octets = packets_at cursor octets
behind_packet cursor (Some head) given octets =
    with_packet (record { number = cursor.count + 1; offset = cursor.offset; seconds = head.seconds; octets = given })
    (packets_from cursor.order 0 (cursor.count + 1) (cursor.offset + 16 + head.len) octets)

-- at a stage, behind so many packets and octets
abbrev pub coming_at : Stage → ℕ → ℕ → List ℕ → Packets
coming_at Start count offset octets = packets_of octets
coming_at (Reading order) count offset octets = packets_from order 0 count offset octets
coming_at (Failed fault) count offset octets = broken fault

abbrev pub coming : Progress → List ℕ → Packets
coming progress octets = coming_at progress.stage progress.count progress.offset octets

-- the packet that was given, if any
abbrev pub packet_in : Option Current → List ℕ → Option Packet
packet_in None given = None
packet_in (Some current) given = Some (record { number = current.number; offset = current.at; seconds = current.seconds; octets = given })

-- with the packet that was given, if any
abbrev pub coming_next : Next → List ℕ → List ℕ → Packets
coming_next next given octets = with_next (packet_in next.current given) (coming next.progress octets)

-- whether there was a fault
abbrev pub is_broken : Stage → Bool
is_broken Start = false
is_broken (Reading order) = false
is_broken (Failed fault) = true

-- How many packets can come at most, and one more before the header is read: so a caller's loop over packets ends.
abbrev pub most_at : Stage → ℕ → ℕ
most_at Start count = 100000001
most_at (Reading order) count = 100000000 - count
most_at (Failed fault) count = 0

abbrev pub most_to_come : Progress → ℕ
most_to_come progress = most_at progress.stage progress.count

-- Whether the octets held tell what comes next: a whole packet, a fault in its head, or more packets than are read.
unfoldable pub is_decided : ByteOrder → ℕ → List ℕ → Bool
is_decided order count held =
    if nat_le 100000000 count then not (length held == 0)
    else (if nat_lt (length held) head_len then false
    else (nat_lt 262144 (captured_len order (take head_len held)) || nat_le (captured_len order (take head_len held)) (length (drop head_len held))))

-- whether the next packet, or the end of the packets, is known without a read
abbrev pub is_ready_at : Stage → ℕ → List ℕ → Bool
is_ready_at Start count held = false
is_ready_at (Reading order) count held = is_decided order count held
is_ready_at (Failed fault) count held = true

-- Parts of definitions that lemmas speak of.
use Rattle.std.specs.Prelude.{ℕ, List, drop, length, nat_le, nat_lt, take, ◌+◌, if◌then◌else◌, Err, Ok, Result}
use Rattle.mud_base.specs.declared.number.ByteOrder.{ByteOrder}
use Rattle.pcap_read.specs.Packets.{Packets, captured_len, head_len, header_len, offsets, packets_from}
use Rattle.read_buffer.specs.Packets.{broken, with_packet}
use Rattle.pcap_read.specs.declared.fault.CapFault.TheVariants as faults
use Rattle.pcap_read.specs.declared.fault.CapFault.{CapFault}
use Rattle.mud_base.specs.Numbers.{number_32}

abbrev pub behind_header : Result ByteOrder CapFault → List ℕ → Packets
behind_header (Err fault) octets = broken fault
behind_header (Ok order) octets = packets_from order 0 0 header_len octets

abbrev pub seconds_of : ByteOrder → List ℕ → ℕ
seconds_of order head = number_32 order offsets.seconds head

abbrev pub at_head : ByteOrder → ℕ → ℕ → List ℕ → Packets → Packets
at_head order count offset octets later =
    if nat_le 100000000 count then broken faults.Many
    else (if nat_lt (length octets) head_len then broken (faults.Cut offset)
    else (if nat_lt 262144 (captured_len order (take head_len octets)) then broken (faults.Long offset)
    else (if nat_lt (length octets) (head_len + captured_len order (take head_len octets)) then broken (faults.Cut offset)
    else with_packet (record {
      number = count + 1;
      offset = offset;
      seconds = seconds_of order (take head_len octets);
      octets = take (captured_len order (take head_len octets)) (drop head_len octets);
    }) later)))

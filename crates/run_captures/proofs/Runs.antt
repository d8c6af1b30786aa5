-- What a caller knows who reads packet after packet: those read so far are the first ones of the capture, and the others are to come.
use Rattle.std.proofs.Common.{◌≡◌, inl, inr, ℕ, ◌≤◌, List, [], ◌∷◌, ◌++◌, length, Option, Some, sym, ap, ◌∙◌, append_assoc, append-nil, arith}
use Rattle.std.proofs.lemmas.Bool.{cases_Bool}
use Rattle.mud_world.specs.Door.{DoorState, Took}
use Rattle.mud_world.proofs.Doors.{took_more}
use Rattle.read_buffer.specs.Packets.{Packet, with_next, with_all}
use Rattle.read_buffer.specs.Reading.{Follows}
use Rattle.pcap_read.specs.Packets.{Packets}
use Rattle.pcap_read.proofs.Steps.{header_short}
use Rattle.pcapng_read.specs.Blocks.{at_start, ng_packets_of}
use Rattle.pcapng_read.proofs.Steps.{blocks_lack}
use Rattle.run_captures.specs.Captures.{Captures, captured_of, is_next}
use Rattle.run_captures.specs.Reading.{EndsIn, HasRead, packet_at, to_come}
use Rattle.run_captures.specs.declared.fault.CaptureFault.{CaptureFault}
use Rattle.run_captures.specs.declared.reader.CaptureReader.{CaptureReader}

all_of : Captures → List Packet
all_of captures = captures.all

all_behind : Option CaptureFault → List Packet → Captures
all_behind fault packets = record { all = packets; fault = fault }

pub has_read_more : (packets : List Packet) (packet : Packet) (old new : CaptureReader) (first s t : DoorState) → HasRead packets old first s
    → Follows (to_come old) (λ more. with_next (packet_at new) (to_come new more)) s t → packet_at new ≡ Some packet → HasRead (packets ++ packet ∷ []) new first t
unfolding all_behind
has_read_more packets packet old new first s t p q is = record {
  octets = p.octets ++ q.octets;
  took = took_more p.octets q.octets first s t p.took q.took;
  same = λ more rest left.
      ap captured_of (append_assoc p.octets q.octets more)
      ∙ p.same (q.octets ++ more) rest (q.took.left ∙ ap (λ (behind : List ℕ). q.octets ++ behind) left ∙ sym (append_assoc q.octets more rest))
      ∙ ap (with_all packets) (q.same more ∙ ap (λ (next : Option Packet). with_next next (to_come new more)) is)
      ∙ ap (all_behind (to_come new more).fault) (sym (append_assoc packets (packet ∷ []) (to_come new more).all));
}

-- the packets of all that is left are those that are to come
pub captured_all : (packets : List Packet) (reader : CaptureReader) (first s : DoorState) → HasRead packets reader first s → captured_of first.left ≡ with_all packets (to_come reader s.left)
captured_all packets reader first s p = ap captured_of p.took.left ∙ p.same s.left [] (sym (append-nil s.left))

-- at any fault, they are all packets of the octets that were taken
pub has_read_taken : (packets : List Packet) (fault : CaptureFault) (old : CaptureReader) (first s t : DoorState) → HasRead packets old first s
    → EndsIn fault (to_come old) s t → (octets : List ℕ) × Took octets first t × ((captured_of octets).all ≡ packets)
unfolding all_of
has_read_taken packets fault old first s t p q = (
  p.octets ++ q.octets,
  took_more p.octets q.octets first s t p.took q.took,
  ap all_of (p.same q.octets t.left q.took.left) ∙ ap (λ (later : List Packet). packets ++ later) q.none ∙ append-nil packets,
)

classic_all : Packets → List Packet
classic_all packets = packets.all

none_in_head : (octets : List ℕ) → length octets ≤ 4 → (ng_packets_of octets).all ≡ []
unfolding ng_packets_of
none_in_head octets few = blocks_lack at_start octets (omega (arith, few))

-- no packet is in so few octets
pub none_in_few : (octets : List ℕ) → length octets ≤ 4 → (captured_of octets).all ≡ []
unfolding classic_all
none_in_few octets few =
    elim (cases_Bool (is_next octets)) [
      | inl next ↦ rw next (none_in_head octets few)
      | inr classic ↦ rw classic (ap classic_all (header_short octets (omega (arith, few))))
    ]

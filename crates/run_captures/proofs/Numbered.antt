-- The packets of a capture are numbered from 1 in their order, in whichever format.
use Rattle.std.proofs.Common.{◌≡◌, inl, inr, ℕ, zero, suc, ◌+◌, ◌-◌, Bool, true, false, cond, ltb, leb, List, [], ◌∷◌, length, take, drop, Option, Some, None, Result, Ok, Err, refl}
use Rattle.std.proofs.lemmas.Bool.{cases_Bool}
use Rattle.mud_base.specs.declared.number.ByteOrder.{ByteOrder}
use Rattle.read_buffer.specs.Packets.{Packet, Told, broken, with_all}
use Rattle.pcap_read.specs.declared.fault.CapFault.{CapFault}
use Rattle.pcap_read.specs.declared.fault.CapFault.TheVariants as faults
use Rattle.pcap_read.specs.Packets.{Packets, head_len, header_len, header_of, captured_len, packets_from, packets_of}
use Rattle.pcapng_read.specs.declared.fault.NgFault.{NgFault}
use Rattle.pcapng_read.specs.declared.head.Kind.{Kind}
use Rattle.pcapng_read.specs.declared.head.Kind.TheVariants.{SectionHeader, InterfaceDescription, EnhancedPacket, OtherPacket, Other}
use Rattle.pcapng_read.specs.declared.standing.Standing.{Standing}
use Rattle.pcapng_read.specs.Blocks.{NgPackets, at_start, blocks_from, head_of, ng_packets_of, packets_behind, packets_in, standing_behind}
use Rattle.run_captures.specs.Captures.{captured_of, is_next}
use Rattle.pcap_read.proofs.Parts.{at_head, behind_header}
use Rattle.pcapng_read.proofs.Parts.{unless_broken}

-- they are numbered on, behind so many
abbrev pub IsNumbered : ℕ → List Packet → Type 0
IsNumbered count [] = Unit {0}
IsNumbered count (packet ∷ packets) = (packet.number ≡ count + 1) × IsNumbered (count + 1) packets

numbered_if : {F : Type 0} (test : Bool) (fault : F) (count : ℕ) (packets : Told F) → IsNumbered count packets.all → IsNumbered count (cond test (broken fault) packets).all
numbered_if true fault count packets p = tt
numbered_if false fault count packets p = p

-- in the classic format
numbered_head : (order : ByteOrder) (count offset : ℕ) (octets : List ℕ) (later : Packets) → IsNumbered (count + 1) later.all → IsNumbered count (at_head order count offset octets later).all
numbered_head order count offset octets later p =
    let len = captured_len order (take head_len octets) in
    elim (cases_Bool (leb 100000000 count)) [
      | inl many ↦ rw many tt
      | inr few ↦ elim (cases_Bool (ltb (length octets) head_len)) [
        | inl short ↦ rw (few, short) tt
        | inr enough ↦ elim (cases_Bool (ltb 262144 len)) [
          | inl long ↦ rw (few, enough, long) tt
          | inr fits ↦ elim (cases_Bool (ltb (length octets) (head_len + len))) [
            | inl lacks ↦ rw (few, enough, fits, lacks) tt
            | inr held ↦ rw (few, enough, fits, held) (refl, p)
          ]
        ]
      ]
    ]

numbered_from : (order : ByteOrder) (skipped count offset : ℕ) (octets : List ℕ) → IsNumbered count (packets_from order skipped count offset octets).all
unfolding packets_from
numbered_from order skipped count offset [] = tt
numbered_from order (suc skipped) count offset (octet ∷ behind) = numbered_from order skipped count (offset + 1) behind
numbered_from order zero count offset (octet ∷ behind) =
    let len = captured_len order (take head_len (octet ∷ behind)) in
    let later = packets_from order (15 + len) (count + 1) (offset + 1) behind in
    numbered_head order count offset (octet ∷ behind) later (numbered_from order (15 + len) (count + 1) (offset + 1) behind)

numbered_behind : (read : Result ByteOrder CapFault) (octets : List ℕ) → IsNumbered 0 (behind_header read octets).all
numbered_behind (Err fault) octets = tt
numbered_behind (Ok order) octets = numbered_from order 0 0 24 octets

numbered_classic : (octets : List ℕ) → IsNumbered 0 (packets_of octets).all
unfolding packets_of
numbered_classic octets =
    let later = behind_header (header_of (take header_len octets)) (drop header_len octets) in
    numbered_if (ltb (length octets) header_len) (faults.Cut 0) 0 later (numbered_behind (header_of (take header_len octets)) (drop header_len octets))

-- in pcapng
numbered_unless : (fault : Option NgFault) (count : ℕ) (packets : NgPackets) → IsNumbered count packets.all → IsNumbered count (unless_broken fault packets).all
numbered_unless None count packets p = p
numbered_unless (Some fault) count packets p = tt

numbered_block : (kind : Kind) (at : Standing) (block : List ℕ) (later : NgPackets) → IsNumbered (packets_behind kind at.packets) later.all → IsNumbered at.packets (with_all (packets_in kind at block) later).all
numbered_block SectionHeader at block later p = p
numbered_block InterfaceDescription at block later p = p
numbered_block EnhancedPacket at block later p = (refl, p)
numbered_block OtherPacket at block later p = p
numbered_block Other at block later p = p

numbered_blocks : (skipped : ℕ) (at : Standing) (octets : List ℕ) → IsNumbered at.packets (blocks_from skipped at octets).all
unfolding blocks_from standing_behind
numbered_blocks skipped at [] = tt
numbered_blocks (suc skipped) at (octet ∷ behind) = numbered_blocks skipped at behind
numbered_blocks zero at (octet ∷ behind) =
    let head = head_of at.section.order (take 12 (octet ∷ behind)) in
    let block = take head.total (octet ∷ behind) in
    let later = blocks_from (head.total - 1) (standing_behind head at block) behind in
    numbered_unless _ at.packets (with_all (packets_in head.kind at block) later) (numbered_block head.kind at block later (numbered_blocks (head.total - 1) (standing_behind head at block) behind))

numbered_next : (octets : List ℕ) → IsNumbered 0 (ng_packets_of octets).all
unfolding ng_packets_of
numbered_next octets = numbered_blocks 0 at_start octets

pub numbered : (octets : List ℕ) → IsNumbered 0 (captured_of octets).all
numbered octets =
    elim (cases_Bool (is_next octets)) [
      | inl next ↦ rw next (numbered_next octets)
      | inr classic ↦ rw classic (numbered_classic octets)
    ]

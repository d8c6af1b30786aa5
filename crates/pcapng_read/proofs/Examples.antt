-- What captures hold, computed by the definition.
use Rattle.std.specs.Prelude.{◌≡◌, ℕ, List, [], ◌∷◌, ◌++◌, take, drop, replicate, Some, None, refl}
use Rattle.read_buffer.specs.Packets.{Packet, whole, broken}
use Rattle.pcapng_read.specs.declared.fault.NgFault.TheVariants as faults
use Rattle.pcapng_read.specs.Blocks.{NgPackets, ng_packets_of}
use Rattle.pcapng_read.proofs.OnLiterals.{blocks_on_literals}

-- a section header with the least significant octet first, of a version
abbrev section : ℕ → ℕ → List ℕ
section major minor = 0x0A ∷ 0x0D ∷ 0x0D ∷ 0x0A ∷ 28 ∷ 0 ∷ 0 ∷ 0 ∷ 0x4D ∷ 0x3C ∷ 0x2B ∷ 0x1A ∷ major ∷ 0 ∷ minor ∷ 0 ∷ replicate 8 255 ++ 28 ∷ 0 ∷ 0 ∷ 0 ∷ []

-- an interface of Ethernet without options
abbrev described : List ℕ
described = 1 ∷ 0 ∷ 0 ∷ 0 ∷ 20 ∷ 0 ∷ 0 ∷ 0 ∷ 1 ∷ 0 ∷ 0 ∷ 0 ∷ 0 ∷ 0 ∷ 4 ∷ 0 ∷ 20 ∷ 0 ∷ 0 ∷ 0 ∷ []

-- a frame of 54 octets: a SYN from 192.0.2.10 port 50000 to 198.51.100.7 port 443
abbrev frame : List ℕ
frame =
    2 ∷ 0 ∷ 0 ∷ 0 ∷ 0 ∷ 0xFE ∷ 2 ∷ 0 ∷ 0 ∷ 0 ∷ 0 ∷ 1 ∷ 8 ∷ 0
    ∷ 0x45 ∷ 0 ∷ 0 ∷ 0x28 ∷ 0 ∷ 1 ∷ 0 ∷ 0 ∷ 0x40 ∷ 6 ∷ 0 ∷ 0 ∷ 0xC0 ∷ 0 ∷ 2 ∷ 0x0A ∷ 0xC6 ∷ 0x33 ∷ 0x64 ∷ 7
    ∷ 0xC3 ∷ 0x50 ∷ 1 ∷ 0xBB ∷ 0 ∷ 0 ∷ 0 ∷ 1 ∷ 0 ∷ 0 ∷ 0 ∷ 0 ∷ 0x50 ∷ 2 ∷ 0xFF ∷ 0xFF ∷ 0 ∷ 0 ∷ 0 ∷ 0 ∷ []

-- the frame at 1,059,000,000 microseconds, in a block of this type
abbrev packet : ℕ → List ℕ
packet kind =
    kind ∷ 0 ∷ 0 ∷ 0 ∷ 0x58 ∷ 0 ∷ 0 ∷ 0 ∷ 0 ∷ 0 ∷ 0 ∷ 0 ∷ 0 ∷ 0 ∷ 0 ∷ 0 ∷ 0xC0 ∷ 0x0E ∷ 0x1F ∷ 0x3F ∷ 0x36 ∷ 0 ∷ 0 ∷ 0 ∷ 0x36 ∷ 0 ∷ 0 ∷ 0
    ∷ (frame ++ 0 ∷ 0 ∷ 0x58 ∷ 0 ∷ 0 ∷ 0 ∷ [])

abbrev begun : List ℕ
begun = section 1 0 ++ described

abbrev one : Packet → NgPackets
one first = record { all = first ∷ []; fault = None }

no_octets : ng_packets_of [] ≡ whole
unfolding blocks_on_literals
no_octets = refl

section_alone : ng_packets_of (section 1 0) ≡ whole
unfolding blocks_on_literals
section_alone = refl

one_packet : ng_packets_of (begun ++ packet 6) ≡ one (record { number = 1; offset = 48; seconds = 1059; octets = frame })
unfolding blocks_on_literals
one_packet = refl

last_four_cut : ng_packets_of (begun ++ take 84 (packet 6)) ≡ broken (faults.Cut 48)
unfolding blocks_on_literals
last_four_cut = refl

simple_packet : ng_packets_of (begun ++ packet 3) ≡ broken (faults.PacketForm 48)
unfolding blocks_on_literals
simple_packet = refl

obsolete_packet : ng_packets_of (begun ++ packet 2) ≡ broken (faults.PacketForm 48)
unfolding blocks_on_literals
obsolete_packet = refl

-- a block of another type is passed over, and its last number is looked at
other_block : ng_packets_of (begun ++ packet 5 ++ packet 6) ≡ one (record { number = 1; offset = 136; seconds = 1059; octets = frame })
unfolding blocks_on_literals
other_block = refl

other_last : ng_packets_of (begun ++ take 84 (packet 5) ++ 0x54 ∷ 0 ∷ 0 ∷ 0 ∷ []) ≡ broken (faults.Length 48)
unfolding blocks_on_literals
other_last = refl

-- the first block is a section header
no_section : ng_packets_of (described ++ packet 6) ≡ broken (faults.Magic 0)
unfolding blocks_on_literals
no_section = refl

-- the magic number has neither order
no_magic : ng_packets_of (take 8 (section 1 0) ++ 0x4D ∷ 0x3C ∷ 0x1A ∷ 0x2B ∷ []) ≡ broken (faults.Magic 0)
unfolding blocks_on_literals
no_magic = refl

version_1_2 : ng_packets_of (section 1 2) ≡ whole
unfolding blocks_on_literals
version_1_2 = refl

version_1_1 : ng_packets_of (section 1 1) ≡ broken (faults.Version 0)
unfolding blocks_on_literals
version_1_1 = refl

-- a section forgets the interfaces of the one before
forgotten : ng_packets_of (begun ++ section 1 0 ++ packet 6) ≡ broken (faults.Interface 76)
unfolding blocks_on_literals
forgotten = refl

-- the link type 113
other_link : ng_packets_of (section 1 0 ++ take 8 described ++ 113 ∷ 0 ∷ drop 10 described ++ packet 6) ≡ broken (faults.LinkType 48)
unfolding blocks_on_literals
other_link = refl

-- an interface with the resolution of this octet, and with more options
abbrev described_by : ℕ → List ℕ → List ℕ
described_by resolution more = 9 ∷ 0 ∷ 1 ∷ 0 ∷ resolution ∷ 0 ∷ 0 ∷ 0 ∷ more

abbrev with_options : ℕ → List ℕ → List ℕ
with_options total options = 1 ∷ 0 ∷ 0 ∷ 0 ∷ total ∷ 0 ∷ 0 ∷ 0 ∷ 1 ∷ 0 ∷ 0 ∷ 0 ∷ 0 ∷ 0 ∷ 4 ∷ 0 ∷ (options ++ total ∷ 0 ∷ 0 ∷ 0 ∷ [])

-- thousandths of a second: 1,059,000,000 of them are 1,059,000 seconds
thousandths : ng_packets_of (section 1 0 ++ with_options 32 (described_by 3 (0 ∷ 0 ∷ 0 ∷ 0 ∷ [])) ++ packet 6) ≡ one (record { number = 1; offset = 60; seconds = 1059000; octets = frame })
unfolding blocks_on_literals
thousandths = refl

-- 2^20 parts of a second: 1,059,000,000 / 1,048,576
power_of_two : ng_packets_of (section 1 0 ++ with_options 28 (described_by 0x94 []) ++ packet 6) ≡ one (record { number = 1; offset = 56; seconds = 1009; octets = frame })
unfolding blocks_on_literals
power_of_two = refl

-- of two options the last one counts
last_option : ng_packets_of (section 1 0 ++ with_options 36 (described_by 0 (described_by 3 [])) ++ packet 6) ≡ one (record { number = 1; offset = 64; seconds = 1059000; octets = frame })
unfolding blocks_on_literals
last_option = refl

resolution_10 : ng_packets_of (section 1 0 ++ with_options 28 (described_by 10 [])) ≡ broken (faults.Resolution 28)
unfolding blocks_on_literals
resolution_10 = refl

resolution_2_31 : ng_packets_of (section 1 0 ++ with_options 28 (described_by 0x9F [])) ≡ broken (faults.Resolution 28)
unfolding blocks_on_literals
resolution_2_31 = refl

-- an offset of one second
time_offset : ng_packets_of (section 1 0 ++ with_options 32 (14 ∷ 0 ∷ 8 ∷ 0 ∷ 1 ∷ replicate 7 0)) ≡ broken (faults.Resolution 28)
unfolding blocks_on_literals
time_offset = refl

no_time_offset : ng_packets_of (section 1 0 ++ with_options 32 (14 ∷ 0 ∷ 8 ∷ 0 ∷ replicate 8 0)) ≡ whole
unfolding blocks_on_literals
no_time_offset = refl

-- a comment of five octets for which the body has no room
option_passes : ng_packets_of (section 1 0 ++ with_options 28 (1 ∷ 0 ∷ 5 ∷ 0 ∷ replicate 4 65)) ≡ broken (faults.Length 28)
unfolding blocks_on_literals
option_passes = refl

-- a total of 87
odd_total : ng_packets_of (begun ++ 6 ∷ 0 ∷ 0 ∷ 0 ∷ 87 ∷ drop 5 (packet 6)) ≡ broken (faults.Length 48)
unfolding blocks_on_literals
odd_total = refl

-- a section header of 24 octets
short_section : ng_packets_of (take 4 (section 1 0) ++ 24 ∷ drop 5 (section 1 0)) ≡ broken (faults.Length 0)
unfolding blocks_on_literals
short_section = refl

-- a total of 524,292
long_packet : ng_packets_of (begun ++ 6 ∷ 0 ∷ 0 ∷ 0 ∷ 4 ∷ 0 ∷ 8 ∷ 0 ∷ drop 8 (packet 6)) ≡ broken (faults.Long 48)
unfolding blocks_on_literals
long_packet = refl

-- captured lengths of 56, which is all between the head and the last number, and of 57
captured_56 : ng_packets_of (begun ++ take 20 (packet 6) ++ 56 ∷ drop 21 (packet 6)) ≡ one (record { number = 1; offset = 48; seconds = 1059; octets = frame ++ 0 ∷ 0 ∷ [] })
unfolding blocks_on_literals
captured_56 = refl

captured_57 : ng_packets_of (begun ++ take 20 (packet 6) ++ 57 ∷ drop 21 (packet 6)) ≡ broken (faults.Length 48)
unfolding blocks_on_literals
captured_57 = refl

-- 2^32 - 1 seconds in whole seconds, and one more
latest : ng_packets_of (section 1 0 ++ with_options 28 (described_by 0 []) ++ take 16 (packet 6) ++ 255 ∷ 255 ∷ 255 ∷ 255 ∷ drop 20 (packet 6)) ≡ one (record { number = 1; offset = 56; seconds = 4294967295; octets = frame })
unfolding blocks_on_literals
latest = refl

too_late : ng_packets_of (section 1 0 ++ with_options 28 (described_by 0 []) ++ take 12 (packet 6) ++ 1 ∷ 0 ∷ 0 ∷ 0 ∷ 0 ∷ 0 ∷ 0 ∷ 0 ∷ drop 20 (packet 6)) ≡ broken (faults.Late 56)
unfolding blocks_on_literals
too_late = refl

-- a section with the most significant octet first, behind one with the least
abbrev big : List ℕ
big =
    0x0A ∷ 0x0D ∷ 0x0D ∷ 0x0A ∷ 0 ∷ 0 ∷ 0 ∷ 28 ∷ 0x1A ∷ 0x2B ∷ 0x3C ∷ 0x4D ∷ 0 ∷ 1 ∷ 0 ∷ 0 ∷ replicate 8 255 ++ 0 ∷ 0 ∷ 0 ∷ 28
    ∷ 0 ∷ 0 ∷ 0 ∷ 1 ∷ 0 ∷ 0 ∷ 0 ∷ 20 ∷ 0 ∷ 1 ∷ 0 ∷ 0 ∷ 0 ∷ 4 ∷ 0 ∷ 0 ∷ 0 ∷ 0 ∷ 0 ∷ 20
    ∷ 0 ∷ 0 ∷ 0 ∷ 6 ∷ 0 ∷ 0 ∷ 0 ∷ 36 ∷ 0 ∷ 0 ∷ 0 ∷ 0 ∷ 0 ∷ 0 ∷ 0 ∷ 0 ∷ 0x3F ∷ 0x1F ∷ 0x0E ∷ 0xC0 ∷ 0 ∷ 0 ∷ 0 ∷ 1 ∷ 0 ∷ 0 ∷ 0 ∷ 1 ∷ 0xAA ∷ 0 ∷ 0 ∷ 0 ∷ 0 ∷ 0 ∷ 0 ∷ 36 ∷ []

both_orders : ng_packets_of (begun ++ packet 6 ++ big)
    ≡ record {
      all = record { number = 1; offset = 48; seconds = 1059; octets = frame } ∷ record { number = 2; offset = 184; seconds = 1059; octets = 0xAA ∷ [] } ∷ [];
      fault = None;
    }
unfolding blocks_on_literals
both_orders = refl

head_cut : ng_packets_of (begun ++ packet 6 ++ take 11 (packet 6)) ≡ record { all = record { number = 1; offset = 48; seconds = 1059; octets = frame } ∷ []; fault = Some (faults.Cut 136) }
unfolding blocks_on_literals
head_cut = refl

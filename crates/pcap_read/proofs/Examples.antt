-- What captures hold, computed by the definition.
use Rattle.std.specs.Prelude.{◌≡◌, ℕ, List, [], ◌∷◌, ◌++◌, take, replicate, Some, None, refl}
use Rattle.pcap_read.specs.declared.fault.CapFault.TheVariants as faults
use Rattle.read_buffer.specs.Packets.{Packet, whole, broken}
use Rattle.pcap_read.specs.Packets.{packets_of}
use Rattle.pcap_read.proofs.OnLiterals.{captures_on_literals}

-- the header of a capture in microseconds, with the least significant octet first
abbrev header : List ℕ
header = 0xD4 ∷ 0xC3 ∷ 0xB2 ∷ 0xA1 ∷ 2 ∷ 0 ∷ 4 ∷ 0 ∷ 0 ∷ 0 ∷ 0 ∷ 0 ∷ 0 ∷ 0 ∷ 0 ∷ 0 ∷ 0 ∷ 0 ∷ 4 ∷ 0 ∷ 1 ∷ 0 ∷ 0 ∷ 0 ∷ []

-- a frame of 54 octets: a SYN from 192.0.2.10 port 50000 to 198.51.100.7 port 443
abbrev frame : List ℕ
frame =
    2 ∷ 0 ∷ 0 ∷ 0 ∷ 0 ∷ 0xFE ∷ 2 ∷ 0 ∷ 0 ∷ 0 ∷ 0 ∷ 1 ∷ 8 ∷ 0
    ∷ 0x45 ∷ 0 ∷ 0 ∷ 0x28 ∷ 0 ∷ 1 ∷ 0 ∷ 0 ∷ 0x40 ∷ 6 ∷ 0 ∷ 0 ∷ 0xC0 ∷ 0 ∷ 2 ∷ 0x0A ∷ 0xC6 ∷ 0x33 ∷ 0x64 ∷ 7
    ∷ 0xC3 ∷ 0x50 ∷ 1 ∷ 0xBB ∷ 0 ∷ 0 ∷ 0 ∷ 1 ∷ 0 ∷ 0 ∷ 0 ∷ 0 ∷ 0x50 ∷ 2 ∷ 0xFF ∷ 0xFF ∷ 0 ∷ 0 ∷ 0 ∷ 0 ∷ []

-- the head of the frame at the second 1059
abbrev head : List ℕ
head = 0x23 ∷ 4 ∷ 0 ∷ 0 ∷ 0 ∷ 0 ∷ 0 ∷ 0 ∷ 0x36 ∷ 0 ∷ 0 ∷ 0 ∷ 0x36 ∷ 0 ∷ 0 ∷ 0 ∷ []

abbrev ten : List ℕ
ten = replicate 10 0

abbrev first : Packet
first = record { number = 1; offset = 24; seconds = 1059; octets = frame }

header_alone : packets_of header ≡ whole
unfolding captures_on_literals
header_alone = refl

no_octets : packets_of [] ≡ broken (faults.Cut 0)
unfolding captures_on_literals
no_octets = refl

header_cut : packets_of (take 23 header) ≡ broken (faults.Cut 0)
unfolding captures_on_literals
header_cut = refl

one_packet : packets_of (header ++ head ++ frame) ≡ record { all = first ∷ []; fault = None }
unfolding captures_on_literals
one_packet = refl

head_cut : packets_of (header ++ head ++ frame ++ ten) ≡ record { all = first ∷ []; fault = Some (faults.Cut 94) }
unfolding captures_on_literals
head_cut = refl

octets_cut : packets_of (header ++ head ++ take 53 frame) ≡ broken (faults.Cut 24)
unfolding captures_on_literals
octets_cut = refl

-- the original length isn't looked at
long_original : packets_of (header ++ 7 ∷ 0 ∷ 0 ∷ 0 ∷ 9 ∷ 0 ∷ 0 ∷ 0 ∷ 1 ∷ 0 ∷ 0 ∷ 0 ∷ 0xDC ∷ 5 ∷ 0 ∷ 0 ∷ 0xAA ∷ [])
    ≡ record { all = record { number = 1; offset = 24; seconds = 7; octets = 0xAA ∷ [] } ∷ []; fault = None }
unfolding captures_on_literals
long_original = refl

-- an empty packet, and a second one
two_packets : packets_of (header ++ 7 ∷ 0 ∷ 0 ∷ 0 ∷ replicate 12 0 ++ 8 ∷ 0 ∷ 0 ∷ 0 ∷ 0 ∷ 0 ∷ 0 ∷ 0 ∷ 2 ∷ 0 ∷ 0 ∷ 0 ∷ 2 ∷ 0 ∷ 0 ∷ 0 ∷ 0xAA ∷ 0xBB ∷ [])
    ≡ record { all = record { number = 1; offset = 24; seconds = 7; octets = [] } ∷ record { number = 2; offset = 40; seconds = 8; octets = 0xAA ∷ 0xBB ∷ [] } ∷ []; fault = None }
unfolding captures_on_literals
two_packets = refl

abbrev big_header : List ℕ → List ℕ
big_header magic = magic ++ 0 ∷ 2 ∷ 0 ∷ 4 ∷ replicate 12 0 ++ 0 ∷ 0 ∷ 0 ∷ 1 ∷ []

abbrev big_packet : List ℕ
big_packet = 0 ∷ 0 ∷ 4 ∷ 0x23 ∷ 0 ∷ 0 ∷ 0 ∷ 0 ∷ 0 ∷ 0 ∷ 0 ∷ 1 ∷ 0 ∷ 0 ∷ 0 ∷ 1 ∷ 0xAA ∷ []

big_endian : packets_of (big_header (0xA1 ∷ 0xB2 ∷ 0xC3 ∷ 0xD4 ∷ []) ++ big_packet) ≡ record { all = record { number = 1; offset = 24; seconds = 1059; octets = 0xAA ∷ [] } ∷ []; fault = None }
unfolding captures_on_literals
big_endian = refl

nanoseconds : packets_of (big_header (0xA1 ∷ 0xB2 ∷ 0x3C ∷ 0x4D ∷ []) ++ big_packet) ≡ record { all = record { number = 1; offset = 24; seconds = 1059; octets = 0xAA ∷ [] } ∷ []; fault = None }
unfolding captures_on_literals
nanoseconds = refl

-- the magic number of pcapng
other_magic : packets_of (big_header (0x0A ∷ 0x0D ∷ 0x0D ∷ 0x0A ∷ [])) ≡ broken faults.Magic
unfolding captures_on_literals
other_magic = refl

version_2_3 : packets_of (take 6 header ++ 3 ∷ 0 ∷ replicate 12 0 ++ 1 ∷ 0 ∷ 0 ∷ 0 ∷ []) ≡ broken faults.Version
unfolding captures_on_literals
version_2_3 = refl

-- a link type with an octet in its upper half
flags_in_link_type : packets_of (take 20 header ++ 1 ∷ 0 ∷ 0 ∷ 0x10 ∷ []) ≡ broken faults.LinkType
unfolding captures_on_literals
flags_in_link_type = refl

-- a captured length of 262,145
too_long : packets_of (header ++ replicate 8 0 ++ 1 ∷ 0 ∷ 4 ∷ 0 ∷ 1 ∷ 0 ∷ 4 ∷ 0 ∷ ten) ≡ broken (faults.Long 24)
unfolding captures_on_literals
too_long = refl

-- a captured length of 262,144, and fewer octets
longest_cut : packets_of (header ++ replicate 8 0 ++ 0 ∷ 0 ∷ 4 ∷ 0 ∷ 0 ∷ 0 ∷ 4 ∷ 0 ∷ ten) ≡ broken (faults.Cut 24)
unfolding captures_on_literals
longest_cut = refl

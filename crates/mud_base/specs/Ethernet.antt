-- The offsets of the head of an Ethernet frame (IEEE 802.3, clause 3): six octets of destination, six of source and two of type.
use Rattle.std.specs.Prelude.{ℕ}

abbrev pub destination_offset : ℕ
destination_offset = 0

abbrev pub source_offset : ℕ
source_offset = 6

abbrev pub type_offset : ℕ
type_offset = 12

-- how many octets the head has
abbrev pub head_len : ℕ
head_len = 14

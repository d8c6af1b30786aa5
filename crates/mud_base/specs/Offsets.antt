-- Octets at an offset, counted from 0.
use Rattle.std.specs.Prelude.{ℕ, ◌%◌, ◌==◌, Bool, List, slice_index, take, drop}
use Rattle.mud_base.specs.declared.addr.Mac.{Mac}

-- so many octets from an offset on
abbrev pub octets_at : ℕ → ℕ → List ℕ → List ℕ
octets_at len offset octets = take len (drop offset octets)

-- the hardware address of Ethernet from an offset on
unfoldable pub mac_at : ℕ → List ℕ → Mac
mac_at offset octets = record { 0 = octets_at 6 offset octets }

-- whether it is a group address: one whose first octet is odd (IEEE 802, clause 8.2)
unfoldable pub is_group_at : ℕ → List ℕ → Bool
is_group_at offset octets = slice_index octets offset % 2 == 1

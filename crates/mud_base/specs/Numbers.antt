-- Octets, and the numbers in them at an offset, counted from 0.
use Rattle.std.specs.Prelude.{ℕ, ◌<◌, List, slice_index}
use Rattle.std.specs.Int.{w16, w32, w64, w128, from_be_bytes, from_le_bytes}
use Rattle.mud_base.specs.declared.number.ByteOrder.{ByteOrder}
use Rattle.mud_base.specs.declared.number.ByteOrder.TheVariants.{Big, Little}
use Rattle.mud_base.specs.Offsets.{octets_at}

-- numbers that are octets
abbrev pub IsOctets : List ℕ → Type 0
IsOctets octets = (i : ℕ) → slice_index octets i < 256

-- The number in two, four, eight or sixteen octets from an offset on, whose most significant octet stands first (RFC 791, appendix B).
unfoldable pub big_16 : ℕ → List ℕ → ℕ
big_16 offset octets = from_be_bytes w16 (octets_at 2 offset octets)

unfoldable pub big_32 : ℕ → List ℕ → ℕ
big_32 offset octets = from_be_bytes w32 (octets_at 4 offset octets)

unfoldable pub big_64 : ℕ → List ℕ → ℕ
big_64 offset octets = from_be_bytes w64 (octets_at 8 offset octets)

unfoldable pub big_128 : ℕ → List ℕ → ℕ
big_128 offset octets = from_be_bytes w128 (octets_at 16 offset octets)

-- The number in two or four octets from an offset on, in either order.
unfoldable pub number_16 : ByteOrder → ℕ → List ℕ → ℕ
number_16 Big offset octets = big_16 offset octets
number_16 Little offset octets = from_le_bytes w16 (octets_at 2 offset octets)

unfoldable pub number_32 : ByteOrder → ℕ → List ℕ → ℕ
number_32 Big offset octets = big_32 offset octets
number_32 Little offset octets = from_le_bytes w32 (octets_at 4 offset octets)

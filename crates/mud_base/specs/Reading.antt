-- The texts of addresses and moments, as they are read.
use Rattle.std.specs.Prelude.{◌≡◌, ℕ, ◌+◌, ◌*◌, Bool, ◌&&◌, ◌==◌, List, [], ◌∷◌, length, slice_index, Option, Some, None, option_map, option_and_then, if◌then◌else◌}
use Rattle.std.specs.Option.{option_or}
use Rattle.std.specs.List.{list_all, before_first, after_first}
use Rattle.std.specs.Char.{is_digit, digit_value}
use Rattle.std.specs.Int.{w32, w128, from_be_bytes}
use Rattle.std.specs.Net.Addr.{octets_of}
use Rattle.std.specs.Net.Grammar.{IsDotted, IsColonHex}
use Rattle.std.specs.Net.Reader.{read_ipv4, read_ipv6, whole_value}
use Rattle.mud_base.specs.Decimal.{number_upto}
use Rattle.mud_base.specs.Addresses.{addr_bits, PrefixParts, prefix_at}
use Rattle.mud_base.specs.declared.addr.Mac.{Mac}
use Rattle.mud_base.specs.declared.addr.Addr.{Addr}
use Rattle.mud_base.specs.declared.addr.Addr.TheVariants.{V4, V6}

infixl 10 ◌>>=◌
abbrev ◌>>=◌ : {A B : Type 0} → Option A → (A → Option B) → Option B
o >>= f = option_and_then f o

-- the value of a hex digit of either case
unfoldable pub hex_value : ℕ → Option ℕ
hex_value c = if is_digit c 16 then Some (digit_value c) else None

-- the octet that the two hex digits at this offset spell
unfoldable pub octet_at : List ℕ → ℕ → Option ℕ
octet_at text offset = do
  high ← hex_value (slice_index text offset)
  low ← hex_value (slice_index text (offset + 1))
  Some (high * 16 + low)

-- the hardware address of a text: six pairs of hex digits of either case, with colons between them
unfoldable pub mac_in : List ℕ → Option Mac
mac_in text = if length text == 17 && has_mac_colons text then (do
  a ← octet_at text 0
  b ← octet_at text 3
  c ← octet_at text 6
  d ← octet_at text 9
  e ← octet_at text 12
  f ← octet_at text 15
  Some (record { 0 = a ∷ b ∷ c ∷ d ∷ e ∷ f ∷ [] })) else None
  where
    -- a colon behind each pair of 17 octets but the last
    has_mac_colons : List ℕ → Bool
    has_mac_colons text = list_all (λ offset. slice_index text offset == 58) (2 ∷ 5 ∷ 8 ∷ 11 ∷ 14 ∷ [])

-- the IPv4 address of these octets, most significant first
abbrev pub addr_of_octets : List ℕ → Addr
addr_of_octets octets = V4 (from_be_bytes w32 octets)

-- the IPv6 address of these groups of 16 bits, most significant first
abbrev pub addr_of_groups : List ℕ → Addr
addr_of_groups groups = V6 (from_be_bytes w128 (octets_of groups))

-- The text writes the address: an IPv4 address as four decimal numbers from 0 to 255 with dots between them and no
-- leading zero; an IPv6 address by RFC 4291, section 2.2: eight groups of one to four hex digits with colons between
-- them, where one `::` may stand for one or more groups of zeros, and an IPv4 text for the last two. No zone.
abbrev pub IsAddrText : List ℕ → Addr → Type 0
IsAddrText text (V4 n) = (octets : List ℕ) × IsDotted text octets × (V4 n ≡ addr_of_octets octets)
IsAddrText text (V6 n) = (groups : List ℕ) × IsColonHex text groups × (V6 n ≡ addr_of_groups groups)

-- the address that the text writes, or None where it writes none
abbrev pub IsAddrReading : List ℕ → Option Addr → Type 0
IsAddrReading text None = (addr : Addr) → ¬ (IsAddrText text addr)
IsAddrReading text (Some addr) = IsAddrText text addr

-- that address, computed: the text's IPv4 address, or else its IPv6 address
unfoldable pub addr_in : List ℕ → Option Addr
addr_in text = option_or (option_map addr_of_octets (whole_value (read_ipv4 text))) (option_map addr_of_groups (whole_value (read_ipv6 text)))

-- the text writes no other address than the one that is computed
abbrev pub WritesOneAddr : List ℕ → Type 0
WritesOneAddr text = (addr : Addr) → IsAddrText text addr → addr_in text ≡ Some addr

abbrev pub is_slash : ℕ → Bool
is_slash c = c == 47

-- The prefix of a text: an address, `/` and a decimal number with no leading zero, at most as many as the address has
-- bits. The other bits are cleared.
unfoldable pub prefix_in : List ℕ → Option PrefixParts
prefix_in text = do
  addr ← addr_in (before_first is_slash text)
  len ← number_upto (addr_bits addr) (after_first is_slash text)
  prefix_at addr len

-- the moment of a text: its seconds in decimal digits with no leading zero, up to 9999-12-31T23:59:59Z
abbrev pub moment_in : List ℕ → Option ℕ
moment_in text = number_upto 253402300799 text

-- The one text of each address and prefix.
use Rattle.std.specs.Prelude.{ℕ, ◌/◌, ◌%◌, List, [], ◌∷◌, ◌++◌, drop, slice_index, flat_map, codes, decimal}
use Rattle.std.specs.Char.{digit_char}
use Rattle.std.specs.Int.{w32, w128, to_be_bytes}
use Rattle.std.specs.Net.Addr.{segments_of}
use Rattle.std.specs.Net.Text.{ipv4_text, hex_groups_text}
use Rattle.mud_base.specs.Addresses.{PrefixParts}
use Rattle.mud_base.specs.declared.addr.Mac.{Mac}
use Rattle.mud_base.specs.declared.addr.Addr.{Addr}
use Rattle.mud_base.specs.declared.addr.Addr.TheVariants.{V4, V6}

-- an octet as two lower-case hex digits
unfoldable pub hex_pair : ℕ → List ℕ
hex_pair octet = digit_char (octet / 16) ∷ digit_char (octet % 16) ∷ []

-- six pairs with colons between them
unfoldable pub mac_text : Mac → List ℕ
mac_text mac = hex_pair (slice_index mac.0 0) ++ flat_map colon_pair (drop 1 mac.0)
  where
    -- a colon, and the octet
    colon_pair : ℕ → List ℕ
    colon_pair octet = 58 ∷ hex_pair octet

-- the octets of an IPv4 address (RFC 791)
unfoldable pub octets_v4 : ℕ → List ℕ
octets_v4 n = to_be_bytes w32 n

-- Four decimal numbers with dots; or by RFC 5952, section 4, the groups of 16 bits (RFC 4291, 2.2) in lower-case hex
-- digits with colons and the longest run of zeros as `::`, and never with an IPv4 text at the end.
unfoldable pub addr_text : Addr → List ℕ
addr_text (V4 n) = ipv4_text (octets_v4 n)
addr_text (V6 n) = hex_groups_text (segments_of (to_be_bytes w128 n))

-- the address, `/`, and the length in decimal (RFC 4632, 3.1; RFC 4291, 2.3)
unfoldable pub prefix_text : PrefixParts → List ℕ
prefix_text prefix = addr_text prefix.addr ++ codes "/" ++ decimal prefix.len

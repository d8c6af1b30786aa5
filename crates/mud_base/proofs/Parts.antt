-- Parts of definitions that lemmas speak of.
use Rattle.std.specs.Prelude.{ℕ, List, Option, option_map, Bool, slice_index, ◌==◌, ◌∷◌, [], length, not, ◌&&◌, ◌||◌, ◌+◌, ◌-◌, ◌*◌}
use Rattle.mud_base.specs.declared.addr.Addr.{Addr}
use Rattle.mud_base.specs.Reading.{addr_of_octets, addr_of_groups}
use Rattle.std.specs.Net.Reader.{read_ipv4, whole_value, read_ipv6}
use Rattle.std.specs.List.{list_all}
use Rattle.std.specs.Net.Addr.{segments_of}
use Rattle.std.specs.Int.{to_be_bytes, w128}
use Rattle.mud_base.specs.Texts.{hex_pair}

abbrev pub ipv4_in : List ℕ → Option Addr
ipv4_in text = option_map addr_of_octets (whole_value (read_ipv4 text))

abbrev pub ipv6_in : List ℕ → Option Addr
ipv6_in text = option_map addr_of_groups (whole_value (read_ipv6 text))

abbrev pub has_mac_colons : List ℕ → Bool
has_mac_colons text = list_all (λ offset. slice_index text offset == 58) (2 ∷ 5 ∷ 8 ∷ 11 ∷ 14 ∷ [])

abbrev pub has_numeral_front : List ℕ → Bool
has_numeral_front text = not (length text == 0) && (length text == 1 || not (slice_index text 0 == 48))

abbrev pub groups_v6 : ℕ → List ℕ
groups_v6 n = segments_of (to_be_bytes w128 n)

abbrev pub number_behind : ℕ → List ℕ → ℕ
number_behind n [] = n
number_behind n (c ∷ cs) = number_behind (n * 10 + (c - 48)) cs

abbrev pub colon_pair : ℕ → List ℕ
colon_pair octet = 58 ∷ hex_pair octet

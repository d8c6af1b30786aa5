-- What a proof unfolds to compute with addresses, prefixes and their texts that are written out.
use Rattle.std.specs.Prelude.{⊤}
use Rattle.std.specs.Fmt.{digits}
use Rattle.std.specs.Net.Reader.{read_number, read_octet, read_ipv4, read_segment, read_segments, read_ipv6}
use Rattle.std.specs.Net.Text.{hex, hex_groups_text}
use Rattle.mud_base.specs.Addresses.{addr_cmp, same_addr, addr_bits, masked, prefix_at, prefix_holds}
use Rattle.mud_base.specs.Decimal.{digits_upto, number_upto}
use Rattle.mud_base.specs.Reading.{hex_value, octet_at, mac_in, addr_in, prefix_in}
use Rattle.mud_base.specs.Texts.{hex_pair, mac_text, octets_v4, addr_text, prefix_text}

unfoldable pub texts_on_literals : ⊤
unfolding digits read_number read_octet read_ipv4 read_segment read_segments read_ipv6 hex hex_groups_text addr_cmp same_addr addr_bits masked prefix_at prefix_holds digits_upto number_upto hex_value octet_at mac_in addr_in prefix_in hex_pair mac_text octets_v4 addr_text prefix_text
texts_on_literals = tt

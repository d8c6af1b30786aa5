-- What a proof unfolds to compute the readings of URLs, strings and host names at octets that are written out.
use Rattle.std.specs.Prelude.{⊤}
use Rattle.mud_base.specs.Decimal.{digits_upto, number_upto}
use Rattle.mud_url.specs.Host.{lowered, is_label_octet, is_label, is_host, without_last_dot, host_name_of}
use Rattle.mud_url.specs.Url.{scheme, begins_with_scheme, authority, path_and_query, host_part, port_part, is_port, begins_with_hex_pair, may_stand, path_fault, canonical_path, canonical, url_of, without_last_zero, string_of, host_of, reads_as, before_query, is_canonical}

unfoldable pub url_on_literals : ⊤
unfolding digits_upto number_upto lowered is_label_octet is_label is_host without_last_dot host_name_of scheme begins_with_scheme authority path_and_query host_part port_part is_port begins_with_hex_pair may_stand path_fault canonical_path canonical url_of without_last_zero string_of host_of reads_as before_query is_canonical
url_on_literals = tt

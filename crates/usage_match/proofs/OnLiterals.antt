-- What a proof unfolds to compute what entries test that are written out.
use Rattle.std.specs.Prelude.{⊤}
use Rattle.usage_walk.proofs.OnLiterals.{walk_on_literals}
use Rattle.mud_base.proofs.OnLiterals.{texts_on_literals}
use Rattle.mud_url.proofs.OnLiterals.{url_on_literals}
use Rattle.usage_match.specs.Texts.{as_upto, meant_where_there, model_in, uri_in, octet_where_there, length_where_there, host_where_there, model_where_there, network_in, network_where_there, direction_in, direction_where_there, operator_in, operator_where_there}
use Rattle.usage_match.specs.Ports.{stands, names_range, range_at, test_of, single_at, port_test_of, port_where_there}
use Rattle.usage_match.specs.Containers.{mud_rows, mud_ways, no_mud_tests, source_network, destination_network, ip_rows, name_where_there, ip_ways, no_ip_tests, is_source, mud_at, ip_at, no_direction, layer_rows, layer_ways, layer_of, layer_at}
use Rattle.usage_match.specs.Matches.{thing_selectors, operator_selectors, mud_selectors, own_network, peer_network, peer_name, ip_selectors, tests_of, no_tests, match_rows, ip_member, other_ip_member, has_two_layers, members_fit, match_ways, matches_of, tests_at}
use Rattle.acl_model.specs.TcpFlags.{all_flags, word_of, bit_of}
use Rattle.usage_match.specs.Flags.{pieces, is_piece, times, begins_with_space, is_flag_text, bit_where_named, flags_in, flags_where_there}

unfoldable pub match_on_literals : ⊤
unfolding walk_on_literals texts_on_literals url_on_literals as_upto meant_where_there model_in uri_in octet_where_there length_where_there host_where_there model_where_there network_in network_where_there direction_in direction_where_there operator_in operator_where_there stands names_range range_at test_of single_at port_test_of port_where_there mud_rows mud_ways no_mud_tests source_network destination_network ip_rows name_where_there ip_ways no_ip_tests is_source mud_at ip_at no_direction layer_rows layer_ways layer_of layer_at thing_selectors operator_selectors mud_selectors own_network peer_network peer_name ip_selectors tests_of no_tests match_rows ip_member other_ip_member has_two_layers members_fit match_ways matches_of tests_at all_flags word_of bit_of pieces is_piece times begins_with_space is_flag_text bit_where_named flags_in flags_where_there
match_on_literals = tt

-- The lines of a tally, computed on packets of a light bulb.
use Rattle.std.proofs.Common.{◌≡◌, [], refl}
use Rattle.std.specs.Prelude.{codes}
use Rattle.std.specs.Fmt.{digits}
use Rattle.mud_base.specs.Texts.{hex_pair, mac_text, octets_v4, addr_text}
use Rattle.acl_model.specs.Match.{peer_of}
use Rattle.packet_judge.specs.Verdicts.{accepts, forwarded}
use Rattle.base_rows.specs.Addresses.{addr_sort_key}
use Rattle.text_values.specs.Numbers.{number_text}
use Rattle.desk_model.specs.Texts.Verdicts.{ruling_text}
use Rattle.drop_ledger.specs.Counted.{count_of, numbered, count_rows, is_of, those_of, is_first, first_rows, late_rows}
use Rattle.mud_base.specs.Directions.{side_number}
use Rattle.drop_ledger.specs.SortKeys.{six, thing_sort_key, ruling_class, entry_number, ruling_sort_key, port_number, peer_sort_key, sort_key_of_count, sort_key_of_denied, sort_key_of_other, with_count, with_denied, with_other}
use Rattle.drop_ledger.specs.Seen.{hour_of, mac_on, ruling_on, ruled_on, rulings, is_governed, has_both, totals_in}
use Rattle.drop_ledger.specs.Ledger.{count_row, counts_of, port_of, peer_row, denied_row, denials}
use Rattle.drop_ledger.proofs.Examples.{bulb, switch, gateway, opening, between, asking, hour, crossing}
use Rattle.run_packets.specs.Tally.Texts.{side_name, thing_text, total_text, count_line, port_text, denied_line, others_line, totals_line, hour_lines, end_lines}
use Rattle.run_packets.specs.Tally.Tallied.{hours, in_hour, ending_of, tally_text}

-- what a proof unfolds to compute with packets that are written out
unfoldable on_literals : Unit {0}
unfolding digits hex_pair mac_text octets_v4 addr_text peer_of accepts forwarded addr_sort_key number_text ruling_text count_of numbered count_rows is_of those_of is_first first_rows late_rows six side_number thing_sort_key ruling_class entry_number ruling_sort_key port_number peer_sort_key sort_key_of_count sort_key_of_denied sort_key_of_other with_count with_denied with_other hour_of mac_on ruling_on ruled_on rulings is_governed has_both totals_in count_row counts_of port_of peer_row denied_row denials bulb switch gateway opening between asking hour crossing side_name thing_text total_text count_line port_text denied_line others_line totals_line hour_lines end_lines hours in_hour ending_of tally_text
on_literals = tt

of_an_hour : tally_text hour ≡ codes "hour 0\ncount 02:00:00:00:00:01 from accept:1 1\ncount 02:00:00:00:00:01 from default-dns 1\ncount 02:00:00:00:00:01 from drop:no-match 1\ndenied 02:00:00:00:00:01 from 198.51.100.7 6 443 1\npackets 3 unmanaged 0 link 0 unreadable 0 pass 2 drop 1 both 0\n"
unfolding on_literals
of_an_hour = refl

of_no_packets : tally_text [] ≡ codes "packets 0 unmanaged 0 link 0 unreadable 0 pass 0 drop 0 both 0\n"
unfolding on_literals
of_no_packets = refl

-- between two Things, on the side of the receiver the peer is the sender with its port
of_both : tally_text crossing ≡ codes "hour 0\ncount 02:00:00:00:00:01 from accept:2 1\ncount 02:00:00:00:00:02 to drop:no-match 1\ndenied 02:00:00:00:00:02 to 192.0.2.10 6 50000 1\npackets 1 unmanaged 0 link 0 unreadable 0 pass 0 drop 1 both 1\n"
unfolding on_literals
of_both = refl

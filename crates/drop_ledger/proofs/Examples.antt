-- The rows of a tally, computed on packets of a light bulb.
use Rattle.std.proofs.Common.{◌≡◌, ℕ, List, [], ◌∷◌, length, Some, None, refl}
use Rattle.mud_base.specs.declared.addr.Addr.TheVariants.{V4}
use Rattle.mud_base.specs.declared.addr.Mac.{Mac}
use Rattle.mud_base.specs.declared.packet.Direction.TheVariants.{From, To}
use Rattle.mud_base.specs.declared.packet.Fields.{Fields}
use Rattle.mud_base.specs.declared.packet.Transport.TheVariants.{Tcp, Udp}
use Rattle.acl_model.specs.Match.{peer_of}
use Rattle.acl_model.specs.declared.ruling.DefaultRule.TheVariants.{Dns}
use Rattle.acl_model.specs.declared.ruling.Ruling.TheVariants.{Accept, AcceptDefault, DropDefault}
use Rattle.acl_model.specs.declared.ruling.Why.TheVariants.{NoMatch}
use Rattle.packet_judge.specs.declared.verdict.Verdict.TheVariants.{Governed}
use Rattle.packet_judge.specs.Verdicts.{accepts, forwarded}
use Rattle.base_rows.specs.Addresses.{addr_sort_key}
use Rattle.drop_ledger.specs.Counted.{count_of, numbered, count_rows, is_of, those_of, is_first, first_rows, late_rows}
use Rattle.drop_ledger.specs.declared.seen.Seen.{Seen}
use Rattle.mud_base.specs.Directions.{side_number}
use Rattle.drop_ledger.specs.SortKeys.{six, thing_sort_key, ruling_class, entry_number, ruling_sort_key, port_number, peer_sort_key, sort_key_of_count, sort_key_of_denied, sort_key_of_other, with_count, with_denied, with_other}
use Rattle.drop_ledger.specs.Seen.{hour_of, mac_on, ruling_on, ruled_on, rulings, is_governed, has_both, totals_in}
use Rattle.drop_ledger.specs.Ledger.{count_row, counts_of, port_of, peer_row, denied_row, denials, denied_kinds, hour_in}

unfoldable pub bulb : Mac
bulb = record { 0 = 2 ∷ 0 ∷ 0 ∷ 0 ∷ 0 ∷ 1 ∷ [] }

unfoldable pub switch : Mac
switch = record { 0 = 2 ∷ 0 ∷ 0 ∷ 0 ∷ 0 ∷ 2 ∷ [] }

unfoldable pub gateway : Mac
gateway = record { 0 = 2 ∷ 0 ∷ 0 ∷ 0 ∷ 0 ∷ 254 ∷ [] }

-- 192.0.2.10 port 50000 to 198.51.100.7 port 443, and to 192.0.2.11 port 80; and a question to a name server at 192.0.2.53
unfoldable pub opening : Fields
opening = record { src = V4 3221225994; dst = V4 3325256711; protocol = 6; dscp = 0; ecn = 0; length = 40; ttl = 64; transport = Tcp 50000 443 2 }

unfoldable pub between : Fields
between = record { src = V4 3221225994; dst = V4 3221225995; protocol = 6; dscp = 0; ecn = 0; length = 40; ttl = 64; transport = Tcp 50000 80 2 }

unfoldable pub asking : Fields
asking = record { src = V4 3221225994; dst = V4 3221226037; protocol = 17; dscp = 0; ecn = 0; length = 28; ttl = 64; transport = Udp 40000 53 }

-- A connection is opened while the binding that allows it is live, and again at its end; between them a name is asked for.
unfoldable pub hour : List Seen
hour =
    record { moment = 1059; verdict = Governed (Some (Accept 1)) None; source = bulb; destination = gateway; fields = Some opening }
    ∷ record { moment = 1060; verdict = Governed (Some (DropDefault NoMatch)) None; source = bulb; destination = gateway; fields = Some opening }
    ∷ record { moment = 1060; verdict = Governed (Some (AcceptDefault Dns)) None; source = bulb; destination = gateway; fields = Some asking }
    ∷ []

counts_of_the_hour : counts_of (rulings hour) ≡
    record { mac = bulb; side = From; ruling = Accept 1; count = 1 }
    ∷ record { mac = bulb; side = From; ruling = AcceptDefault Dns; count = 1 }
    ∷ record { mac = bulb; side = From; ruling = DropDefault NoMatch; count = 1 }
    ∷ []
unfolding bulb gateway opening asking hour mac_on ruling_on ruled_on rulings count_row counts_of count_of numbered count_rows six side_number thing_sort_key ruling_class entry_number ruling_sort_key sort_key_of_count with_count
counts_of_the_hour = refl

hour_is : hour_in hour ≡ Some 0
unfolding hour hour_in hour_of ruling_on ruled_on
hour_is = refl

denied_of_the_hour : first_rows denied_kinds (denials (rulings hour)) ≡ record { mac = bulb; side = From; peer = V4 3325256711; protocol = 6; port = Some 443; count = 1 } ∷ []
unfolding bulb gateway opening asking hour mac_on ruling_on ruled_on rulings count_of numbered count_rows six side_number thing_sort_key port_number peer_sort_key addr_sort_key sort_key_of_denied with_denied port_of peer_of peer_row denied_row denials is_of those_of is_first first_rows
denied_of_the_hour = refl

others_of_the_hour : late_rows denied_kinds (denials (rulings hour)) ≡ []
unfolding bulb gateway opening asking hour mac_on ruling_on ruled_on rulings count_of numbered count_rows six side_number thing_sort_key port_number peer_sort_key addr_sort_key sort_key_of_denied sort_key_of_other with_other port_of peer_of peer_row denied_row denials is_of those_of is_first late_rows
others_of_the_hour = refl

totals_of_the_hour : totals_in hour ≡ record { packets = 3; unmanaged = 0; link = 0; unreadable = 0; pass = 2; drop = 1; both = 0 }
unfolding hour totals_in is_governed has_both accepts forwarded
totals_of_the_hour = refl

-- A packet between two Things, which the sender's file allows and the receiver's doesn't.
unfoldable pub crossing : List Seen
crossing = record { moment = 1001; verdict = Governed (Some (Accept 2)) (Some (DropDefault NoMatch)); source = bulb; destination = switch; fields = Some between } ∷ []

counts_of_both : counts_of (rulings crossing) ≡
    record { mac = bulb; side = From; ruling = Accept 2; count = 1 }
    ∷ record { mac = switch; side = To; ruling = DropDefault NoMatch; count = 1 }
    ∷ []
unfolding bulb switch between crossing mac_on ruling_on ruled_on rulings count_row counts_of count_of numbered count_rows six side_number thing_sort_key ruling_class entry_number ruling_sort_key sort_key_of_count with_count
counts_of_both = refl

-- on the side of the receiver the peer is the sender, with its port
denied_to_the_second : first_rows denied_kinds (denials (rulings crossing)) ≡ record { mac = switch; side = To; peer = V4 3221225994; protocol = 6; port = Some 50000; count = 1 } ∷ []
unfolding bulb switch between crossing mac_on ruling_on ruled_on rulings count_of numbered count_rows six side_number thing_sort_key port_number peer_sort_key addr_sort_key sort_key_of_denied with_denied port_of peer_of peer_row denied_row denials is_of those_of is_first first_rows
denied_to_the_second = refl

totals_of_both : totals_in crossing ≡ record { packets = 1; unmanaged = 0; link = 0; unreadable = 0; pass = 0; drop = 1; both = 1 }
unfolding crossing totals_in is_governed has_both accepts forwarded
totals_of_both = refl

totals_of_none : totals_in [] ≡ record { packets = 0; unmanaged = 0; link = 0; unreadable = 0; pass = 0; drop = 0; both = 0 }
unfolding totals_in
totals_of_none = refl

-- What a proof unfolds to compute verdicts on frames and tables that are written out.
use Rattle.mud_base.specs.Addresses.{prefix_holds, same_addr}
use Rattle.mud_base.proofs.FieldsOnLiterals.{fields_on_literals}
use Rattle.frame_view.specs.Ethernet.{destination_of, source_of}
use Rattle.frame_view.specs.Carried.{carried, by_type, past_tag, is_tag}
use Rattle.frame_view.specs.Frame.{frame_of}
use Rattle.frame_view.specs.Ipv4.{packet_of, is_upkeep, fields_of, transport_in, is_later_fragment, has_header, counted, header_len}
use Rattle.frame_view.specs.Traffic.{codepoint, congestion}
use Rattle.frame_view.specs.Upper.{transport_of, tcp, udp, icmp}
use Rattle.acl_model.proofs.OnLiterals.{acl_on_literals}
use Rattle.table_model.specs.Things.{mac_of, thing_at}
use Rattle.table_model.specs.Tables.{destination_thing, has_host, has_url, is_leased, is_bound, is_named, meets, ruling_of}
use Rattle.table_model.proofs.Literals.{binds_compute, flows_compute}
use Rattle.packet_judge.specs.Verdicts.{endpoints_of, endpoint_ruling, is_managed, if_managed, verdict_on, verdict_of, rulings_of, accepts, forwarded, is_tcp, noted_fields, history_after}

unfoldable pub verdicts_compute : Unit {0}
unfolding prefix_holds same_addr fields_on_literals destination_of source_of frame_of carried by_type past_tag is_tag packet_of is_upkeep fields_of transport_in is_later_fragment has_header counted header_len codepoint congestion transport_of tcp udp icmp acl_on_literals mac_of thing_at destination_thing has_host has_url is_leased is_bound is_named meets ruling_of binds_compute flows_compute endpoints_of endpoint_ruling is_managed if_managed verdict_on verdict_of rulings_of accepts forwarded is_tcp noted_fields history_after
verdicts_compute = tt

-- What unfolds where the definitions are computed on literal octets.
use Rattle.mud_base.specs.Decimal.{digits_upto, number_upto}
use Rattle.mud_url.specs.Host.{lowered, is_label_octet, is_label, is_host}
use Rattle.mud_url.specs.Url.{scheme, begins_with_scheme, authority, path_and_query, host_part, port_part, is_port, begins_with_hex_pair, may_stand, path_fault, canonical_path, canonical, url_of, without_last_zero, string_of}
use Rattle.mud_base.proofs.FieldsOnLiterals.{fields_on_literals}
use Rattle.dhcp_lldp.specs.Mud.{announced}
use Rattle.dhcp_lldp.specs.Options.{contents_of, option_fault}
use Rattle.dhcp_lldp.specs.Dhcp.{is_request, is_reply, is_ethernet, has_cookie, options_of, is_ack, seconds_of, granted, said, heard_of}
use Rattle.dhcp_lldp.specs.Tlvs.{is_out_of_order, is_mud, tlv_fault, mud_string_of}
use Rattle.dhcp_lldp.specs.Lldp.{tlvs_of, lldp_of}

unfoldable pub urls_on_literals : Unit {0}
unfolding digits_upto number_upto lowered is_label_octet is_label is_host scheme begins_with_scheme authority path_and_query host_part port_part is_port begins_with_hex_pair may_stand path_fault canonical_path canonical url_of without_last_zero string_of
urls_on_literals = tt

unfoldable pub messages_on_literals : Unit {0}
unfolding urls_on_literals fields_on_literals announced contents_of option_fault is_request is_reply is_ethernet has_cookie options_of is_ack seconds_of granted said heard_of
messages_on_literals = tt

unfoldable pub frames_on_literals : Unit {0}
unfolding urls_on_literals fields_on_literals announced is_out_of_order is_mud tlv_fault mud_string_of tlvs_of lldp_of
frames_on_literals = tt

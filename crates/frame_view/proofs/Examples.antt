-- Frames written out, and what they are.
use Rattle.std.proofs.Common.{◌≡◌, ℕ, List, [], ◌∷◌, ◌++◌, Some, None, refl, take}
use Rattle.std.specs.Prelude.{codes}
use Rattle.mud_base.specs.declared.addr.Addr.TheVariants.{V4, V6}
use Rattle.mud_base.specs.declared.packet.Fields.{Fields}
use Rattle.mud_base.specs.declared.packet.Transport.{Transport}
use Rattle.mud_base.specs.declared.packet.Transport.TheVariants.{Tcp, Udp, Icmp, Absent}
use Rattle.frame_view.specs.declared.views.Part.{Part}
use Rattle.frame_view.specs.declared.views.Part.TheVariants as part
use Rattle.frame_view.specs.declared.views.Frame.TheVariants.{Link, Unreadable, Packet}
use Rattle.frame_view.specs.Ethernet.{destination_of, source_of}
use Rattle.frame_view.specs.Carried.{carried, by_type, past_tag, is_tag, payload_of}
use Rattle.frame_view.specs.Frame.{frame_of}
use Rattle.frame_view.specs.Ipv4 as ipv4
use Rattle.frame_view.specs.Ipv6 as ipv6
use Rattle.mud_base.proofs.FieldsOnLiterals.{fields_on_literals}
use Rattle.frame_view.specs.Traffic.{codepoint, congestion}
use Rattle.frame_view.specs.Upper as upper
use Rattle.frame_view.specs.Upper.{transport_of, tcp, udp, icmp}
use Rattle.frame_view.proofs.Hex.{from_hex}

-- every word that a reading computes with
unfoldable readings : Unit {0}
unfolding frame_of carried by_type past_tag is_tag fields_on_literals codepoint congestion transport_of tcp udp icmp ipv4.packet_of ipv4.is_upkeep ipv4.fields_of ipv4.transport_in ipv4.is_later_fragment ipv4.has_header ipv4.counted ipv4.header_len ipv6.packet_of ipv6.is_upkeep ipv6.contents_of ipv6.traffic_class ipv6.upper_in ipv6.upper_behind ipv6.upper_layer ipv6.is_later_fragment ipv6.is_cut ipv6.extension_len ipv6.is_extension ipv6.payload ipv6.has_header
readings = tt

abbrev Carries : List ℕ → Fields → Type 0
Carries frame fields = frame_of frame ≡ Packet (record { octets = frame; fields = fields })

abbrev IsLink : List ℕ → Type 0
IsLink frame = frame_of frame ≡ Link frame

abbrev CannotRead : Part → List ℕ → Type 0
CannotRead part frame = frame_of frame ≡ Unreadable (Some frame) part

-- from 02:00:00:00:00:01 to 02:00:00:00:00:fe
abbrev addressed : List ℕ → List ℕ
addressed text = from_hex (codes "0200000000fe 020000000001" ++ text)

destination : destination_of (addressed []) ≡ record { 0 = 2 ∷ 0 ∷ 0 ∷ 0 ∷ 0 ∷ 254 ∷ [] }
unfolding fields_on_literals destination_of
destination = refl

source : source_of (addressed []) ≡ record { 0 = 2 ∷ 0 ∷ 0 ∷ 0 ∷ 0 ∷ 1 ∷ [] }
unfolding fields_on_literals source_of
source = refl

-- a TCP segment from port 50000 to port 443 that begins a connection
abbrev syn : List ℕ
syn = codes "c35001bb 00000001 00000000 5002ffff 00000000"

-- an IPv4 packet from 192.0.2.10 to 198.51.100.7, whose header begins with these ten octets
abbrev ipv4_frame : List ℕ → List ℕ → List ℕ
ipv4_frame start behind = addressed (codes "0800" ++ start ++ codes "0000 c000020a c6336407" ++ behind)

-- what such a header says with a type of service of 0 and a time to live of 64, by its total length and protocol
abbrev ipv4_fields : ℕ → ℕ → Transport → Fields
ipv4_fields length protocol transport = record {
  src = V4 0xC000020A;
  dst = V4 0xC6336407;
  protocol = protocol;
  dscp = 0;
  ecn = 0;
  length = length;
  ttl = 64;
  transport = transport;
}

abbrev syn_packet : List ℕ
syn_packet = codes "0800 45000028 00010000 40060000 c000020a c6336407" ++ syn

abbrev syn_fields : ℕ → Fields
syn_fields length = ipv4_fields length 6 (Tcp 50000 443 2)

-- Ethernet and tags
ethernet_cut : frame_of (take 10 (addressed syn_packet)) ≡ Unreadable None part.Ethernet
unfolding readings
ethernet_cut = refl

ethernet_alone : CannotRead part.Ip (take 14 (addressed syn_packet))
unfolding readings
ethernet_alone = refl

no_tag : Carries (addressed syn_packet) (syn_fields 40)
unfolding readings
no_tag = refl

one_tag : Carries (addressed (codes "81000064" ++ syn_packet)) (syn_fields 40)
unfolding readings
one_tag = refl

two_tags : Carries (addressed (codes "88a80064 81000065" ++ syn_packet)) (syn_fields 40)
unfolding readings
two_tags = refl

three_tags : CannotRead part.Tag (addressed (codes "88a80064 81000065 81000066" ++ syn_packet))
unfolding readings
three_tags = refl

tag_cut : CannotRead part.Tag (addressed (codes "8100"))
unfolding readings
tag_cut = refl

tag_without_type : CannotRead part.Tag (addressed (codes "81000064 08"))
unfolding readings
tag_without_type = refl

arp : IsLink (addressed (codes "0806 0001 0800 0604 0001 020000000001 c000020a 000000000000 c0000201"))
unfolding readings
arp = refl

tagged_arp : IsLink (addressed (codes "81000064 0806 0001 0800 0604 0001 020000000001 c000020a 000000000000 c0000201"))
unfolding readings
tagged_arp = refl

-- IPv4
ipv4_cut : CannotRead part.Ip (take 33 (addressed syn_packet))
unfolding readings
ipv4_cut = refl

ipv4_of_version_6 : CannotRead part.Ip (ipv4_frame (codes "65000028 00010000 4006") syn)
unfolding readings
ipv4_of_version_6 = refl

ipv4_of_four_words : CannotRead part.Ip (ipv4_frame (codes "44000028 00010000 4006") syn)
unfolding readings
ipv4_of_four_words = refl

ipv4_shorter_than_its_header : CannotRead part.Ip (ipv4_frame (codes "45000013 00010000 4006") syn)
unfolding readings
ipv4_shorter_than_its_header = refl

-- a header of six words
ipv4_options : Carries (ipv4_frame (codes "4600002c 00010000 4006") (codes "01010101" ++ syn)) (syn_fields 44)
unfolding readings
ipv4_options = refl

ipv4_options_cut : CannotRead part.Ip (ipv4_frame (codes "46000017 00010000 4006") (codes "01010101" ++ syn))
unfolding readings
ipv4_options_cut = refl

ipv4_longer_than_the_frame : Carries (ipv4_frame (codes "450000ff 00010000 4006") syn) (syn_fields 255)
unfolding readings
ipv4_longer_than_the_frame = refl

ipv4_padded : Carries (ipv4_frame (codes "4500001c 00010000 4011") (codes "9c400035 00080000 000000000000000000000000000000000000")) (ipv4_fields 28 17 (Udp 40000 53))
unfolding readings
ipv4_padded = refl

ipv4_padding_is_no_header : CannotRead part.Transport (ipv4_frame (codes "45000027 00010000 4006") syn)
unfolding readings
ipv4_padding_is_no_header = refl

first_fragment : Carries (ipv4_frame (codes "45000028 00012000 4006") syn) (syn_fields 40)
unfolding readings
first_fragment = refl

later_fragment : Carries (ipv4_frame (codes "45000028 00010001 4006") syn) (ipv4_fields 40 6 Absent)
unfolding readings
later_fragment = refl

-- the upper layer
tcp_cut : CannotRead part.Transport (take 50 (addressed syn_packet))
unfolding readings
tcp_cut = refl

tcp_of_four_words : CannotRead part.Transport (ipv4_frame (codes "45000028 00010000 4006") (codes "c35001bb 00000001 00000000 4002ffff 00000000"))
unfolding readings
tcp_of_four_words = refl

tcp_options_are_not_looked_for : Carries (ipv4_frame (codes "45000028 00010000 4006") (codes "c35001bb 00000001 00000000 f0c2ffff 00000000")) (ipv4_fields 40 6 (Tcp 50000 443 0xC2))
unfolding readings
tcp_options_are_not_looked_for = refl

udp_query : Carries (ipv4_frame (codes "4500001c 00020000 4011") (codes "9c400035 00080000")) (ipv4_fields 28 17 (Udp 40000 53))
unfolding readings
udp_query = refl

udp_cut : CannotRead part.Transport (ipv4_frame (codes "4500001b 00020000 4011") (codes "9c400035 00080000"))
unfolding readings
udp_cut = refl

udp_length_is_not_used : Carries (ipv4_frame (codes "4500001c 00020000 4011") (codes "9c400035 ffff0000")) (ipv4_fields 28 17 (Udp 40000 53))
unfolding readings
udp_length_is_not_used = refl

icmp_echo : Carries (ipv4_frame (codes "4500001c 00010000 4001") (codes "0800f7ff 00000000")) (ipv4_fields 28 1 (Icmp 8 0))
unfolding readings
icmp_echo = refl

icmp_cut : CannotRead part.Transport (ipv4_frame (codes "45000017 00010000 4001") (codes "0800f7ff 00000000"))
unfolding readings
icmp_cut = refl

icmp_of_ipv6_in_ipv4 : Carries (ipv4_frame (codes "4500001c 00010000 403a") (codes "8000f7ff 00000000")) (ipv4_fields 28 58 Absent)
unfolding readings
icmp_of_ipv6_in_ipv4 = refl

another_protocol : Carries (ipv4_frame (codes "45000014 00010000 402f") []) (ipv4_fields 20 47 Absent)
unfolding readings
another_protocol = refl

-- Type of service 10111001 bits, the codepoint 101110 of expedited forwarding and 01; a total length of 320, which is
-- 140 hex; a time to live of 127.
ipv4_header_fields : Carries (ipv4_frame (codes "45b90140 00010000 7f06") syn) (record { src = V4 0xC000020A; dst = V4 0xC6336407; protocol = 6; dscp = 46; ecn = 1; length = 320; ttl = 127; transport = Tcp 50000 443 2 })
unfolding readings
ipv4_header_fields = refl

ipv4_highest_fields : Carries (ipv4_frame (codes "45ffffff 00010000 ff06") syn) (record { src = V4 0xC000020A; dst = V4 0xC6336407; protocol = 6; dscp = 63; ecn = 3; length = 65535; ttl = 255; transport = Tcp 50000 443 2 })
unfolding readings
ipv4_highest_fields = refl

-- DHCP: a UDP datagram between two addresses and two ports
abbrev datagram : List ℕ → List ℕ → List ℕ
datagram addresses ports = addressed (codes "0800 4500001c 00020000 40110000" ++ addresses ++ ports ++ codes "00080000")

dhcp_answer : IsLink (datagram (codes "c0000201 c000020a") (codes "00430044"))
unfolding readings
dhcp_answer = refl

dhcp_discover : IsLink (datagram (codes "00000000 ffffffff") (codes "00440043"))
unfolding readings
dhcp_discover = refl

dhcp_without_an_address : IsLink (datagram (codes "00000000 c0000201") (codes "00440043"))
unfolding readings
dhcp_without_an_address = refl

dhcp_to_all : IsLink (datagram (codes "c000020a ffffffff") (codes "00440043"))
unfolding readings
dhcp_to_all = refl

dhcp_renewal_to_one_server : Carries (datagram (codes "c000020a c0000201") (codes "00440043")) (record { src = V4 0xC000020A; dst = V4 0xC0000201; protocol = 17; dscp = 0; ecn = 0; length = 28; ttl = 64; transport = Udp 68 67 })
unfolding readings
dhcp_renewal_to_one_server = refl

port_68_from_another : Carries (datagram (codes "00000000 ffffffff") (codes "9c400044")) (record { src = V4 0; dst = V4 0xFFFFFFFF; protocol = 17; dscp = 0; ecn = 0; length = 28; ttl = 64; transport = Udp 40000 68 })
unfolding readings
port_68_from_another = refl

port_67_from_another : Carries (datagram (codes "00000000 ffffffff") (codes "9c400043")) (record { src = V4 0; dst = V4 0xFFFFFFFF; protocol = 17; dscp = 0; ecn = 0; length = 28; ttl = 64; transport = Udp 40000 67 })
unfolding readings
port_67_from_another = refl

port_68_to_another : Carries (datagram (codes "00000000 ffffffff") (codes "00440035")) (record { src = V4 0; dst = V4 0xFFFFFFFF; protocol = 17; dscp = 0; ecn = 0; length = 28; ttl = 64; transport = Udp 68 53 })
unfolding readings
port_68_to_another = refl

dhcp_later_fragment : Carries (addressed (codes "0800 4500001c 00020001 40110000 00000000 ffffffff 00440043 00080000")) (record { src = V4 0; dst = V4 0xFFFFFFFF; protocol = 17; dscp = 0; ecn = 0; length = 28; ttl = 64; transport = Absent })
unfolding readings
dhcp_later_fragment = refl

-- an IPv6 packet from 2001:db8::a to 2001:db8::7, whose header begins with these eight octets
abbrev ipv6_from : List ℕ → List ℕ → List ℕ
ipv6_from start behind =
    addressed (codes "86dd" ++ start ++ codes "20010db8 00000000 00000000 0000000a 20010db8 00000000 00000000 00000007" ++ behind)

-- the same with a traffic class and a flow label of 0, and this payload length, next header and hop limit
abbrev ipv6_frame : List ℕ → List ℕ → List ℕ
ipv6_frame start behind = ipv6_from (codes "60000000" ++ start) behind

-- what such a header says with a traffic class of 0, by its payload length, hop limit and upper layer
abbrev ipv6_fields : ℕ → ℕ → ℕ → Transport → Fields
ipv6_fields length hop_limit protocol transport = record {
  src = V6 0x20010DB800000000000000000000000A;
  dst = V6 0x20010DB8000000000000000000000007;
  protocol = protocol;
  dscp = 0;
  ecn = 0;
  length = length;
  ttl = hop_limit;
  transport = transport;
}

abbrev syn_fields_v6 : ℕ → Fields
syn_fields_v6 length = ipv6_fields length 64 6 (Tcp 50000 443 2)

-- a header of destination options, with another one or TCP behind it
abbrev options_then_options : List ℕ
options_then_options = codes "3c00 010400000000"

abbrev options_then_tcp : List ℕ
options_then_tcp = codes "0600 010400000000"

abbrev options_then_fragment : List ℕ
options_then_fragment = codes "2c00 010400000000"

abbrev six_options : List ℕ
six_options =
    options_then_options ++ options_then_options ++ options_then_options ++ options_then_options ++ options_then_options ++ options_then_options

-- Traffic class 10111001 bits and flow label 12345 hex; a payload length of 532, which is 214 hex; a hop limit of 127.
ipv6_header_fields : Carries (ipv6_from (codes "6b912345 0214 06 7f") syn) (record { src = V6 0x20010DB800000000000000000000000A; dst = V6 0x20010DB8000000000000000000000007; protocol = 6; dscp = 46; ecn = 1; length = 532; ttl = 127; transport = Tcp 50000 443 2 })
unfolding readings
ipv6_header_fields = refl

-- the flow label is no part of the traffic class
flow_label_alone : Carries (ipv6_from (codes "600fffff 0014 06 40") syn) (syn_fields_v6 20)
unfolding readings
flow_label_alone = refl

ipv6_highest_fields : Carries (ipv6_from (codes "6ff00000 ffff 06 ff") syn) (record { src = V6 0x20010DB800000000000000000000000A; dst = V6 0x20010DB8000000000000000000000007; protocol = 6; dscp = 63; ecn = 3; length = 65535; ttl = 255; transport = Tcp 50000 443 2 })
unfolding readings
ipv6_highest_fields = refl

ipv6_cut : CannotRead part.Ip (take 53 (ipv6_frame (codes "0014 06 40") syn))
unfolding readings
ipv6_cut = refl

ipv6_of_version_4 : CannotRead part.Ip (addressed (codes "86dd 45000028 00010000 40060000 c000020a c6336407 0000000000000000" ++ syn))
unfolding readings
ipv6_of_version_4 = refl

no_extension : Carries (ipv6_frame (codes "0014 06 40") syn) (syn_fields_v6 20)
unfolding readings
no_extension = refl

one_extension : Carries (ipv6_frame (codes "001c 00 40") (options_then_tcp ++ syn)) (syn_fields_v6 28)
unfolding readings
one_extension = refl

one_long_extension : Carries (ipv6_frame (codes "0024 2b 40") (codes "0601 0000 00000000 0000000000000000" ++ syn)) (syn_fields_v6 36)
unfolding readings
one_long_extension = refl

eight_extensions : Carries (ipv6_frame (codes "0054 3c 40") (six_options ++ options_then_options ++ options_then_tcp ++ syn)) (syn_fields_v6 84)
unfolding readings
eight_extensions = refl

nine_extensions : CannotRead part.Extension (ipv6_frame (codes "005c 3c 40") (six_options ++ options_then_options ++ options_then_options ++ options_then_tcp ++ syn))
unfolding readings
nine_extensions = refl

extension_cut : CannotRead part.Extension (ipv6_frame (codes "0008 3c 40") (codes "0601 010400000000"))
unfolding readings
extension_cut = refl

extension_behind_the_payload : CannotRead part.Extension (ipv6_frame (codes "0007 3c 40") (options_then_tcp ++ syn))
unfolding readings
extension_behind_the_payload = refl

fragment_header_cut : CannotRead part.Extension (ipv6_frame (codes "0007 2c 40") (codes "0600 0008 000001"))
unfolding readings
fragment_header_cut = refl

first_fragment_v6 : Carries (ipv6_frame (codes "001c 2c 40") (codes "0600 0001 00000001" ++ syn)) (syn_fields_v6 28)
unfolding readings
first_fragment_v6 = refl

later_fragment_v6 : Carries (ipv6_frame (codes "001c 2c 40") (codes "0600 0008 00000001" ++ syn)) (ipv6_fields 28 64 6 Absent)
unfolding readings
later_fragment_v6 = refl

-- the eighth header is that of a later fragment, with an extension header behind it
later_fragment_of_an_extension : Carries (ipv6_frame (codes "0040 3c 40") (six_options ++ options_then_fragment ++ codes "3c00 0008 00000001")) (ipv6_fields 64 64 60 Absent)
unfolding readings
later_fragment_of_an_extension = refl

no_payload : CannotRead part.Transport (ipv6_frame (codes "0000 06 40") syn)
unfolding readings
no_payload = refl

authentication_header : Carries (ipv6_frame (codes "0008 33 40") (codes "0600000000000000")) (ipv6_fields 8 64 51 Absent)
unfolding readings
authentication_header = refl

no_next_header : Carries (ipv6_frame (codes "0000 3b 40") []) (ipv6_fields 0 64 59 Absent)
unfolding readings
no_next_header = refl

ipv6_longer_than_the_frame : Carries (ipv6_frame (codes "ffff 06 40") syn) (syn_fields_v6 65535)
unfolding readings
ipv6_longer_than_the_frame = refl

icmp_of_ipv4_in_ipv6 : Carries (ipv6_frame (codes "0008 01 ff") (codes "8700f7ff 00000000")) (ipv6_fields 8 255 1 Absent)
unfolding readings
icmp_of_ipv4_in_ipv6 = refl

-- neighbour discovery
neighbour_solicitation : IsLink (ipv6_frame (codes "0018 3a ff") (codes "87000000 00000000 fe800000 00000000 00000000 00000001"))
unfolding readings
neighbour_solicitation = refl

neighbour_solicitation_from_afar : Carries (ipv6_frame (codes "0018 3a fe") (codes "87000000 00000000 fe800000 00000000 00000000 00000001")) (ipv6_fields 24 254 58 (Icmp 135 0))
unfolding readings
neighbour_solicitation_from_afar = refl

router_solicitation : IsLink (ipv6_frame (codes "0008 3a ff") (codes "85000000 00000000"))
unfolding readings
router_solicitation = refl

redirect : IsLink (ipv6_frame (codes "0008 3a ff") (codes "89000000 00000000"))
unfolding readings
redirect = refl

type_132 : Carries (ipv6_frame (codes "0008 3a ff") (codes "84000000 00000000")) (ipv6_fields 8 255 58 (Icmp 132 0))
unfolding readings
type_132 = refl

type_138 : Carries (ipv6_frame (codes "0008 3a ff") (codes "8a000000 00000000")) (ipv6_fields 8 255 58 (Icmp 138 0))
unfolding readings
type_138 = refl

-- what a datagram holds
unfoldable payloads : Unit {0}
unfolding readings payload_of upper.payload_of
payloads = tt

abbrev Holds : List ℕ → List ℕ → Type 0
Holds frame payload = payload_of frame ≡ payload

-- three octets behind the header of UDP, and behind what counts the filling of the frame, whatever length UDP names
udp_payload : Holds (ipv4_frame (codes "4500001f 00020000 4011") (codes "9c400035 ffff0000 010203" ++ codes "0000")) (1 ∷ 2 ∷ 3 ∷ [])
unfolding payloads
udp_payload = refl

-- behind a header of six words and a tag
udp_payload_behind_options : Holds (addressed (codes "81000064 0800 46000021 00010000 40110000 c000020a c6336407 01010101 9c400035 00080000 0708 09")) (7 ∷ [])
unfolding payloads
udp_payload_behind_options = refl

udp_payload_v6 : Holds (ipv6_frame (codes "0012 00 40") (codes "1100 010400000000 9c400035 000a0000 0506 07")) (5 ∷ 6 ∷ [])
unfolding payloads
udp_payload_v6 = refl

later_fragment_has_none : Holds (ipv4_frame (codes "4500001f 00020001 4011") (codes "9c400035 ffff0000 010203")) []
unfolding payloads
later_fragment_has_none = refl

tcp_has_none : Holds (ipv4_frame (codes "4500002a 00010000 4006") (syn ++ codes "0102")) []
unfolding payloads
tcp_has_none = refl

cut_frame_has_none : Holds (take 40 (addressed syn_packet)) []
unfolding payloads
cut_frame_has_none = refl

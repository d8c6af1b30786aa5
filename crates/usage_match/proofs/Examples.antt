-- What entries test, worked out. The names are those of RFC 8519, 4.2, and RFC 8520, 4 and 8.
use Rattle.std.proofs.Common.{◌≡◌, ℕ, List, [], ◌∷◌, Option, Some, None, Ok, Err, Result, map, refl}
use Rattle.std.specs.Prelude.{codes}
use Rattle.mud_base.specs.declared.addr.Addr.TheVariants as addr
use Rattle.mud_base.specs.Addresses.{PrefixParts}
use Rattle.mud_base.specs.declared.packet.Direction.{Direction}
use Rattle.mud_base.specs.declared.packet.Direction.TheVariants.{From, To}
use Rattle.acl_model.specs.declared.entry.Selector.{Selector}
use Rattle.acl_model.specs.declared.entry.Selector.TheVariants as asks
use Rattle.acl_model.specs.declared.entry.PortTest as test
use Rattle.acl_model.specs.declared.entry.PortTest.TheVariants as port
use Rattle.acl_model.specs.declared.entry.Layer.{Layer}
use Rattle.acl_model.specs.declared.entry.Layer.TheVariants as layer
use Rattle.serde_json.specs.Data.{Data, null, string}
use Rattle.usage_walk.specs.declared.fault.Broken.{Broken}
use Rattle.usage_walk.specs.declared.fault.Rule.{Rule}
use Rattle.usage_walk.specs.declared.fault.Rule.TheVariants as rule
use Rattle.mud_base.specs.Readings.{answer}
use Rattle.usage_walk.specs.Reading.{fault_at}
use Rattle.usage_walk.proofs.Written.{num, list, obj}
use Rattle.usage_match.specs.declared.entry_tests.ListType.{ListType}
use Rattle.usage_match.specs.declared.entry_tests.ListType.TheVariants.{Ipv4, Ipv6}
use Rattle.usage_match.specs.declared.entry_tests.Tests.{Tests}
use Rattle.usage_match.specs.Matches.{tests_at}
use Rattle.usage_match.proofs.OnLiterals.{match_on_literals}

-- ---- Entries whose `matches` have these members

abbrev Fields : Type 0
Fields = List (List ℕ × Data)

abbrev read : ListType → Direction → Fields → Result Tests Broken
read type side matches = answer (tests_at type side [] (obj ((codes "matches", obj matches) ∷ [])))

-- a rule that is broken at this path under `matches`
abbrev breaks : Rule → List ℕ → Result Tests Broken
breaks broken path = Err (fault_at broken path)

abbrev tests : List Selector → Option PrefixParts → Option ℕ → Layer → Tests
tests selectors own protocol header = record { selectors = selectors; own = own; protocol = protocol; dscp = None; ecn = None; length = None; ttl = None; layer = header }

-- members of one container
abbrev ipv4 : Fields → Fields
ipv4 ms = (codes "ipv4", obj ms) ∷ []

abbrev ipv6 : Fields → Fields
ipv6 ms = (codes "ipv6", obj ms) ∷ []

abbrev tcp : Fields → Fields
tcp ms = (codes "tcp", obj ms) ∷ []

abbrev udp : Fields → Fields
udp ms = (codes "udp", obj ms) ∷ []

abbrev icmp : Fields → Fields
icmp ms = (codes "icmp", obj ms) ∷ []

abbrev mud : Fields → Fields
mud ms = (codes "ietf-mud:mud", obj ms) ∷ []

-- ---- The entries of the example of RFC 8520, 9

from_thing : read Ipv4 From ((codes "ipv4", obj ((codes "ietf-acldns:dst-dnsname", string (codes "test.example.com")) ∷ (codes "protocol", num 6) ∷ []))
    ∷ (codes "tcp", obj ((codes "ietf-mud:direction-initiated", string (codes "from-device")) ∷ (codes "destination-port", obj ((codes "operator", string (codes "eq")) ∷ (codes "port", num 443) ∷ [])) ∷ [])) ∷ [])
    ≡ Ok (tests (asks.Name (codes "test.example.com") ∷ []) None (Some 6) (layer.Tcp port.Any (port.Eq 443) (Some From) None))
unfolding match_on_literals
from_thing = refl

to_thing : read Ipv4 To ((codes "ipv4", obj ((codes "ietf-acldns:src-dnsname", string (codes "test.example.com")) ∷ (codes "protocol", num 6) ∷ []))
    ∷ (codes "tcp", obj ((codes "ietf-mud:direction-initiated", string (codes "from-device")) ∷ (codes "source-port", obj ((codes "operator", string (codes "eq")) ∷ (codes "port", num 443) ∷ [])) ∷ [])) ∷ [])
    ≡ Ok (tests (asks.Name (codes "test.example.com") ∷ []) None (Some 6) (layer.Tcp (port.Eq 443) port.Any (Some From) None))
unfolding match_on_literals
to_thing = refl

-- ---- Without tests

nothing_asked : answer (tests_at Ipv4 From [] (obj [])) ≡ Ok (tests [] None None layer.Any)
unfolding match_on_literals
nothing_asked = refl

nothing_in_matches : read Ipv6 To [] ≡ Ok (tests [] None None layer.Any)
unfolding match_on_literals
nothing_in_matches = refl

-- ---- The side of the peer and the Thing's own

-- 192.0.2.0/24 and 198.51.100.7/32
abbrev doc_net : PrefixParts
doc_net = record { addr = addr.V4 0xC0000200; len = 24 }

abbrev peer_host : PrefixParts
peer_host = record { addr = addr.V4 0xC6336407; len = 32 }

abbrev v4_networks : Fields
v4_networks = ipv4 ((codes "source-ipv4-network", string (codes "192.0.2.10/24")) ∷ (codes "destination-ipv4-network", string (codes "198.51.100.7/32")) ∷ [])

networks_from : read Ipv4 From v4_networks ≡ Ok (tests (asks.Network peer_host ∷ []) (Some doc_net) None layer.Any)
unfolding match_on_literals
networks_from = refl

networks_to : read Ipv4 To v4_networks ≡ Ok (tests (asks.Network doc_net ∷ []) (Some peer_host) None layer.Any)
unfolding match_on_literals
networks_to = refl

-- 2001:db8::/32 and fe80::/10
abbrev doc_net_v6 : PrefixParts
doc_net_v6 = record { addr = addr.V6 0x20010db8000000000000000000000000; len = 32 }

abbrev link_net : PrefixParts
link_net = record { addr = addr.V6 0xfe800000000000000000000000000000; len = 10 }

abbrev v6_networks : Fields
v6_networks = ipv6 ((codes "source-ipv6-network", string (codes "2001:db8::1/32")) ∷ (codes "destination-ipv6-network", string (codes "fe80::/10")) ∷ [])

networks_from_v6 : read Ipv6 From v6_networks ≡ Ok (tests (asks.Network link_net ∷ []) (Some doc_net_v6) None layer.Any)
unfolding match_on_literals
networks_from_v6 = refl

networks_to_v6 : read Ipv6 To v6_networks ≡ Ok (tests (asks.Network doc_net_v6 ∷ []) (Some link_net) None layer.Any)
unfolding match_on_literals
networks_to_v6 = refl

name_from : read Ipv6 From (ipv6 ((codes "ietf-acldns:dst-dnsname", string (codes "Test.Example.com.")) ∷ [])) ≡ Ok (tests (asks.Name (codes "test.example.com") ∷ []) None None layer.Any)
unfolding match_on_literals
name_from = refl

own_name_from : read Ipv4 From (ipv4 ((codes "ietf-acldns:src-dnsname", null) ∷ [])) ≡ breaks rule.NameSide (codes "/matches/ipv4/ietf-acldns:src-dnsname")
unfolding match_on_literals
own_name_from = refl

own_name_to : read Ipv6 To (ipv6 ((codes "ietf-acldns:dst-dnsname", null) ∷ [])) ≡ breaks rule.NameSide (codes "/matches/ipv6/ietf-acldns:dst-dnsname")
unfolding match_on_literals
own_name_to = refl

-- ---- `ietf-mud:mud`: the selectors in the order in which they are read

all_of_mud : read Ipv4 From (mud ((codes "my-controller", list (null ∷ [])) ∷ (codes "controller", string (codes "urn:x")) ∷ (codes "local-networks", null)
    ∷ (codes "model", string (codes "HTTPS://A:443")) ∷ (codes "same-manufacturer", null) ∷ (codes "manufacturer", string (codes "B.c.")) ∷ []))
    ≡ Ok (tests (asks.Manufacturer (codes "b.c") ∷ asks.SameManufacturer ∷ asks.Model (codes "https://a/") ∷ asks.LocalNetworks ∷ asks.Controller (codes "urn:x") ∷ asks.MyController ∷ []) None None layer.Any)
unfolding match_on_literals
all_of_mud = refl

-- and in front of those of the IP header
mud_and_ip : read Ipv4 To ((codes "ietf-mud:mud", obj ((codes "local-networks", null) ∷ [])) ∷ (codes "ipv4", obj ((codes "source-ipv4-network", string (codes "192.0.2.0/24")) ∷ (codes "ietf-acldns:src-dnsname", string (codes "a")) ∷ [])) ∷ [])
    ≡ Ok (tests (asks.LocalNetworks ∷ asks.Network doc_net ∷ asks.Name (codes "a") ∷ []) None None layer.Any)
unfolding match_on_literals
mud_and_ip = refl

no_class : read Ipv4 From (mud ((codes "controller", string []) ∷ [])) ≡ breaks rule.NameText (codes "/matches/ietf-mud:mud/controller")
unfolding match_on_literals
no_class = refl

other_leaf : read Ipv4 From (mud ((codes "local-networks", list []) ∷ [])) ≡ breaks rule.WrongKind (codes "/matches/ietf-mud:mud/local-networks")
unfolding match_on_literals
other_leaf = refl

unknown_of_mud : read Ipv4 From (mud ((codes "vendor", null) ∷ (codes "manufacturer", null) ∷ [])) ≡ breaks rule.UnknownMatch (codes "/matches/ietf-mud:mud/vendor")
unfolding match_on_literals
unknown_of_mud = refl

-- ---- Which containers may stand

other_version : read Ipv6 From ((codes "ipv4", null) ∷ (codes "tcp", null) ∷ (codes "udp", null) ∷ []) ≡ breaks rule.Family (codes "/matches/ipv4")
unfolding match_on_literals
other_version = refl

tcp_beside_icmp : read Ipv4 From ((codes "tcp", null) ∷ (codes "icmp", null) ∷ []) ≡ breaks rule.TwoLayers (codes "/matches")
unfolding match_on_literals
tcp_beside_icmp = refl

udp_beside_icmp : read Ipv4 From ((codes "udp", null) ∷ (codes "icmp", null) ∷ []) ≡ breaks rule.TwoLayers (codes "/matches")
unfolding match_on_literals
udp_beside_icmp = refl

network_of_other_version : read Ipv4 From (ipv4 ((codes "source-ipv6-network", null) ∷ [])) ≡ breaks rule.UnknownMatch (codes "/matches/ipv4/source-ipv6-network")
unfolding match_on_literals
network_of_other_version = refl

prefix_of_other_version : read Ipv6 From (ipv6 ((codes "source-ipv6-network", string (codes "192.0.2.0/24")) ∷ [])) ≡ breaks rule.PrefixText (codes "/matches/ipv6/source-ipv6-network")
unfolding match_on_literals
prefix_of_other_version = refl

-- ---- Ports

abbrev source_port : Fields → Result Tests Broken
source_port ms = read Ipv4 From (udp ((codes "source-port", obj ms) ∷ []))

abbrev from_port : test.PortTest → Result Tests Broken
from_port own = Ok (tests [] None None (layer.Udp own port.Any))

abbrev compared : List ℕ → Result Tests Broken
compared word = source_port ((codes "operator", string word) ∷ (codes "port", num 1023) ∷ [])

operators : map compared (codes "eq" ∷ codes "neq" ∷ codes "lte" ∷ codes "gte" ∷ []) ≡ from_port (port.Eq 1023) ∷ from_port (port.Neq 1023) ∷ from_port (port.Lte 1023) ∷ from_port (port.Gte 1023) ∷ []
unfolding match_on_literals
operators = refl

no_operator : source_port ((codes "port", num 65535) ∷ []) ≡ from_port (port.Eq 65535)
unfolding match_on_literals
no_operator = refl

range_of_one : source_port ((codes "lower-port", num 53) ∷ (codes "upper-port", num 53) ∷ []) ≡ from_port (port.Within 53 53)
unfolding match_on_literals
range_of_one = refl

range_turned : source_port ((codes "lower-port", num 54) ∷ (codes "upper-port", num 53) ∷ []) ≡ breaks rule.PortRange (codes "/matches/udp/source-port")
unfolding match_on_literals
range_turned = refl

range_beside_operator : source_port ((codes "lower-port", num 1) ∷ (codes "upper-port", num 2) ∷ (codes "operator", null) ∷ []) ≡ breaks rule.PortRange (codes "/matches/udp/source-port")
unfolding match_on_literals
range_beside_operator = refl

upper_beside_port : source_port ((codes "upper-port", num 2) ∷ (codes "port", num 1) ∷ []) ≡ breaks rule.PortRange (codes "/matches/udp/source-port")
unfolding match_on_literals
upper_beside_port = refl

lower_before_upper : source_port ((codes "lower-port", num 65536) ∷ (codes "upper-port", num 65537) ∷ []) ≡ breaks rule.Range (codes "/matches/udp/source-port/lower-port")
unfolding match_on_literals
lower_before_upper = refl

kind_before_range : source_port ((codes "lower-port", num 65536) ∷ (codes "upper-port", null) ∷ []) ≡ breaks rule.WrongKind (codes "/matches/udp/source-port/upper-port")
unfolding match_on_literals
kind_before_range = refl

unknown_of_port : source_port ((codes "range", null) ∷ (codes "port", null) ∷ []) ≡ breaks rule.UnknownMatch (codes "/matches/udp/source-port/range")
unfolding match_on_literals
unknown_of_port = refl

source_before_destination : read Ipv4 From (tcp ((codes "source-port", null) ∷ (codes "destination-port", null) ∷ [])) ≡ breaks rule.WrongKind (codes "/matches/tcp/source-port")
unfolding match_on_literals
source_before_destination = refl

-- ---- Directions, types and codes

begun_by_peer : read Ipv4 From (tcp ((codes "ietf-mud:direction-initiated", string (codes "to-device")) ∷ [])) ≡ Ok (tests [] None None (layer.Tcp port.Any port.Any (Some To) None))
unfolding match_on_literals
begun_by_peer = refl

begun_by_both : read Ipv4 From (tcp ((codes "ietf-mud:direction-initiated", string (codes "both")) ∷ [])) ≡ breaks rule.DirectionText (codes "/matches/tcp/ietf-mud:direction-initiated")
unfolding match_on_literals
begun_by_both = refl

kind_and_code : read Ipv4 From (icmp ((codes "type", num 255) ∷ (codes "code", num 0) ∷ [])) ≡ Ok (tests [] None None (layer.Icmp (Some 255) (Some 0)))
unfolding match_on_literals
kind_and_code = refl

any_icmp : read Ipv6 To (icmp []) ≡ Ok (tests [] None None (layer.Icmp None None))
unfolding match_on_literals
any_icmp = refl

code_of_256 : read Ipv4 From (icmp ((codes "type", num 0) ∷ (codes "code", num 256) ∷ [])) ≡ breaks rule.Range (codes "/matches/icmp/code")
unfolding match_on_literals
code_of_256 = refl

direction_in_icmp : read Ipv4 From (icmp ((codes "ietf-mud:direction-initiated", null) ∷ [])) ≡ breaks rule.DirectionNotTcp (codes "/matches/icmp/ietf-mud:direction-initiated")
unfolding match_on_literals
direction_in_icmp = refl

unknown_of_udp : read Ipv4 From (udp ((codes "length", num 8) ∷ [])) ≡ breaks rule.UnknownMatch (codes "/matches/udp/length")
unfolding match_on_literals
unknown_of_udp = refl

unknown_of_icmp : read Ipv4 From (icmp ((codes "rest-of-header", null) ∷ [])) ≡ breaks rule.UnknownMatch (codes "/matches/icmp/rest-of-header")
unfolding match_on_literals
unknown_of_icmp = refl

-- ---- Numbers of the IP header, and flags

-- `fin` is 1, `syn` 2 and `cwr` 128
numbers_and_flags : read Ipv6 From ((codes "ipv6", obj ((codes "dscp", num 63) ∷ (codes "ecn", num 3) ∷ (codes "length", num 65535) ∷ (codes "ttl", num 255) ∷ []))
    ∷ (codes "tcp", obj ((codes "flags", string (codes "fin  cwr syn")) ∷ [])) ∷ [])
    ≡ Ok (record { selectors = []; own = None; protocol = None; dscp = Some 63; ecn = Some 3; length = Some 65535; ttl = Some 255; layer = layer.Tcp port.Any port.Any None (Some 131) })
unfolding match_on_literals
numbers_and_flags = refl

-- each is in its range before the next one is read
dscp_of_64 : read Ipv4 From (ipv4 ((codes "ecn", num 4) ∷ (codes "dscp", num 64) ∷ [])) ≡ breaks rule.Range (codes "/matches/ipv4/dscp")
unfolding match_on_literals
dscp_of_64 = refl

ecn_of_4 : read Ipv4 From (ipv4 ((codes "length", num 65536) ∷ (codes "ecn", num 4) ∷ [])) ≡ breaks rule.Range (codes "/matches/ipv4/ecn")
unfolding match_on_literals
ecn_of_4 = refl

length_of_65536 : read Ipv4 From (ipv4 ((codes "ttl", num 256) ∷ (codes "length", num 65536) ∷ [])) ≡ breaks rule.Range (codes "/matches/ipv4/length")
unfolding match_on_literals
length_of_65536 = refl

ttl_of_256 : read Ipv4 From (ipv4 ((codes "protocol", num 256) ∷ (codes "ttl", num 256) ∷ [])) ≡ breaks rule.Range (codes "/matches/ipv4/ttl")
unfolding match_on_literals
ttl_of_256 = refl

protocol_of_256 : read Ipv4 From (ipv4 ((codes "protocol", num 256) ∷ [])) ≡ breaks rule.Range (codes "/matches/ipv4/protocol")
unfolding match_on_literals
protocol_of_256 = refl

other_flag : read Ipv4 From (tcp ((codes "flags", string (codes "syn push")) ∷ [])) ≡ breaks rule.FlagText (codes "/matches/tcp/flags")
unfolding match_on_literals
other_flag = refl

direction_before_flags : read Ipv4 From (tcp ((codes "flags", num 2) ∷ (codes "ietf-mud:direction-initiated", num 1) ∷ [])) ≡ breaks rule.WrongKind (codes "/matches/tcp/ietf-mud:direction-initiated")
unfolding match_on_literals
direction_before_flags = refl

flags_in_udp : read Ipv4 From (udp ((codes "flags", string (codes "syn")) ∷ [])) ≡ breaks rule.UnknownMatch (codes "/matches/udp/flags")
unfolding match_on_literals
flags_in_udp = refl

unknown_of_ip : read Ipv4 From (ipv4 ((codes "flow-label", num 1) ∷ (codes "protocol", num 256) ∷ [])) ≡ breaks rule.UnknownMatch (codes "/matches/ipv4/flow-label")
unfolding match_on_literals
unknown_of_ip = refl

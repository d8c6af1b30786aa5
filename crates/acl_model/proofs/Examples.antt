-- Keys, entries, packets and rulings, worked out.
use Rattle.std.proofs.Common.{◌≡◌, ℕ, Bool, true, false, List, [], ◌∷◌, Option, Some, None, map, refl}
use Rattle.std.specs.Prelude.{codes, bytes_eq}
use Rattle.mud_base.specs.declared.addr.Addr.{Addr}
use Rattle.mud_base.specs.declared.addr.Addr.TheVariants as addr
use Rattle.mud_base.specs.declared.addr.Family.TheVariants as family
use Rattle.mud_base.specs.declared.prefix.Prefix.{Prefix}
use Rattle.mud_base.specs.declared.packet.Direction.{Direction}
use Rattle.mud_base.specs.declared.packet.Direction.TheVariants.{From, To}
use Rattle.mud_base.specs.declared.packet.Fields.{Fields}
use Rattle.mud_base.specs.declared.packet.Transport.{Transport}
use Rattle.mud_base.specs.declared.packet.Transport.TheVariants as packet
use Rattle.acl_model.specs.declared.entry.Selector.{Selector}
use Rattle.acl_model.specs.declared.entry.Selector.TheVariants as asks
use Rattle.acl_model.specs.declared.entry.PortTest.TheVariants as port
use Rattle.acl_model.specs.declared.entry.Layer.{Layer}
use Rattle.acl_model.specs.declared.entry.Layer.TheVariants as layer
use Rattle.acl_model.specs.declared.entry.Action.{Action}
use Rattle.acl_model.specs.declared.entry.Action.TheVariants as action
use Rattle.acl_model.specs.declared.entry.Entry.{Entry}
use Rattle.acl_model.specs.declared.entry.Policy.{Policy}
use Rattle.acl_model.specs.declared.binding.MemberKey.TheVariants as of_key
use Rattle.acl_model.specs.declared.ruling.DefaultRule.TheVariants.{Dns, Ntp}
use Rattle.acl_model.specs.declared.ruling.Why.TheVariants.{NoFile, NoMatch}
use Rattle.acl_model.specs.declared.ruling.Ruling.{Ruling}
use Rattle.acl_model.specs.declared.ruling.Ruling.TheVariants.{Accept, AcceptDefault, Drop, DropDefault}
use Rattle.acl_model.specs.Keys.{key_of, has_key}
use Rattle.acl_model.specs.Match.{family_matches, port_passes, rest_matches, near_matches, entry_matches}
use Rattle.acl_model.specs.Defaults.{default_entry, default_policy}
use Rattle.acl_model.specs.FirstMatch.{ruling_by}
use Rattle.acl_model.specs.Policies.{policy_in}
use Rattle.acl_model.proofs.OnLiterals.{acl_on_literals}

-- ---- Ports, at their bounds

every_port : map (port_passes port.Any) (0 ∷ 65535 ∷ []) ≡ true ∷ true ∷ []
unfolding acl_on_literals
every_port = refl

equal_port : map (port_passes (port.Eq 443)) (442 ∷ 443 ∷ 444 ∷ []) ≡ false ∷ true ∷ false ∷ []
unfolding acl_on_literals
equal_port = refl

other_port : map (port_passes (port.Neq 443)) (442 ∷ 443 ∷ 444 ∷ []) ≡ true ∷ false ∷ true ∷ []
unfolding acl_on_literals
other_port = refl

port_up_to : map (port_passes (port.Lte 1023)) (0 ∷ 1023 ∷ 1024 ∷ []) ≡ true ∷ true ∷ false ∷ []
unfolding acl_on_literals
port_up_to = refl

port_from : map (port_passes (port.Gte 1024)) (1023 ∷ 1024 ∷ 65535 ∷ []) ≡ false ∷ true ∷ true ∷ []
unfolding acl_on_literals
port_from = refl

port_within : map (port_passes (port.Within 100 200)) (99 ∷ 100 ∷ 200 ∷ 201 ∷ []) ≡ false ∷ true ∷ true ∷ false ∷ []
unfolding acl_on_literals
port_within = refl

-- ---- A Thing at 192.0.2.10 and a peer at 198.51.100.7

abbrev thing : Addr
thing = addr.V4 0xC000020A

abbrev peer : Addr
peer = addr.V4 0xC6336407

-- 192.0.2.0/24
abbrev thing_network : Prefix
thing_network = record { addr = addr.V4 0xC0000200; len = 24 }

-- 198.51.100.0/24
abbrev peer_network : Prefix
peer_network = record { addr = addr.V4 0xC6336400; len = 24 }

-- what the Thing sends, and what is sent to it
abbrev sent : ℕ → Transport → Fields
sent protocol transport = record { src = thing; dst = peer; protocol = protocol; dscp = 0; ecn = 0; length = 60; ttl = 64; transport = transport }

abbrev received : ℕ → Transport → Fields
received protocol transport = record { src = peer; dst = thing; protocol = protocol; dscp = 0; ecn = 0; length = 60; ttl = 64; transport = transport }

-- a TCP segment to port 443, with SYN set
abbrev syn : Transport
syn = packet.Tcp 50000 443 2

abbrev entry_with : List Selector → Option Prefix → Option ℕ → Layer → Action → Entry
entry_with selectors own protocol transport act = record {
  acl = [];
  name = [];
  family = family.V4;
  selectors = selectors;
  own = own;
  protocol = protocol;
  dscp = None;
  ecn = None;
  length = None;
  ttl = None;
  layer = transport;
  action = act;
}

abbrev layer_entry : Layer → Entry
layer_entry transport = entry_with [] None None transport action.Accept

-- ---- Who began the connection

abbrev https_begun_by : Option Direction → Entry
https_begun_by named = layer_entry (layer.Tcp port.Any (port.Eq 443) named None)

abbrev beginners : List (Option Direction)
beginners = None ∷ Some From ∷ Some To ∷ []

begun_by_none_named : map (rest_matches (https_begun_by None) (sent 6 syn) From) beginners ≡ true ∷ true ∷ true ∷ []
unfolding acl_on_literals
begun_by_none_named = refl

begun_by_thing : map (rest_matches (https_begun_by (Some From)) (sent 6 syn) From) beginners ≡ false ∷ true ∷ false ∷ []
unfolding acl_on_literals
begun_by_thing = refl

begun_by_peer : map (rest_matches (https_begun_by (Some To)) (sent 6 syn) From) beginners ≡ false ∷ false ∷ true ∷ []
unfolding acl_on_literals
begun_by_peer = refl

-- ---- The transport header

-- named flags are the whole octet: neither part of it nor more than it
flags_named : map (λ flags. rest_matches (layer_entry (layer.Tcp port.Any port.Any None (Some 2))) (sent 6 (packet.Tcp 50000 443 flags)) From None) (2 ∷ 0 ∷ 18 ∷ 16 ∷ []) ≡ true ∷ false ∷ false ∷ false ∷ []
unfolding acl_on_literals
flags_named = refl

no_flag_named : map (λ flags. rest_matches (layer_entry (layer.Tcp port.Any port.Any None (Some 0))) (sent 6 (packet.Tcp 50000 443 flags)) From None) (0 ∷ 2 ∷ []) ≡ true ∷ false ∷ []
unfolding acl_on_literals
no_flag_named = refl

abbrev echo_request : Entry
echo_request = layer_entry (layer.Icmp (Some 8) (Some 0))

icmp_kind_and_code : map (λ transport. rest_matches echo_request (sent 1 transport) From None) (packet.Icmp 8 0 ∷ packet.Icmp 0 8 ∷ packet.Icmp 8 1 ∷ packet.Icmp 0 0 ∷ []) ≡ true ∷ false ∷ false ∷ false ∷ []
unfolding acl_on_literals
icmp_kind_and_code = refl

icmp_kind_alone : map (λ transport. rest_matches (layer_entry (layer.Icmp (Some 8) None)) (sent 1 transport) From None) (packet.Icmp 8 5 ∷ packet.Icmp 5 8 ∷ []) ≡ true ∷ false ∷ []
unfolding acl_on_literals
icmp_kind_alone = refl

-- a later fragment has no transport header, so that only an entry which asks for none matches it
later_fragment : map (λ asked. rest_matches (layer_entry asked) (sent 17 packet.Absent) From None) (layer.Any ∷ layer.Udp port.Any port.Any ∷ layer.Tcp port.Any port.Any None None ∷ layer.Icmp None None ∷ []) ≡ true ∷ false ∷ false ∷ false ∷ []
unfolding acl_on_literals
later_fragment = refl

tcp_is_not_udp : rest_matches (layer_entry (layer.Udp port.Any port.Any)) (sent 6 syn) From None ≡ false
unfolding acl_on_literals
tcp_is_not_udp = refl

-- ---- The IP header

protocol_named : map (λ protocol. rest_matches (entry_with [] None (Some 6) layer.Any action.Accept) (sent protocol packet.Absent) From None) (6 ∷ 17 ∷ []) ≡ true ∷ false ∷ []
unfolding acl_on_literals
protocol_named = refl

-- the own prefix is asked of the Thing's address, whichever side it is on
abbrev own_entry : Prefix → Entry
own_entry prefix = entry_with [] (Some prefix) None layer.Any action.Accept

own_sends : map (λ prefix. rest_matches (own_entry prefix) (sent 6 syn) From None) (thing_network ∷ peer_network ∷ []) ≡ true ∷ false ∷ []
unfolding acl_on_literals
own_sends = refl

own_receives : map (λ prefix. rest_matches (own_entry prefix) (received 6 syn) To None) (thing_network ∷ peer_network ∷ []) ≡ true ∷ false ∷ []
unfolding acl_on_literals
own_receives = refl

-- 2001:db8::1 and 2001:db8::2
abbrev sent_over_v6 : Fields
sent_over_v6 = record { src = addr.V6 0x20010db8000000000000000000000001; dst = addr.V6 0x20010db8000000000000000000000002; protocol = 6; dscp = 0; ecn = 0; length = 60; ttl = 64; transport = syn }

family_of_addresses : map (λ versions. family_matches versions sent_over_v6) (family.V4 ∷ family.V6 ∷ family.Both ∷ []) ≡ false ∷ true ∷ true ∷ []
unfolding acl_on_literals
family_of_addresses = refl

v4_entry_over_v6 : rest_matches (layer_entry layer.Any) sent_over_v6 From None ≡ false
unfolding acl_on_literals
v4_entry_over_v6 = refl

-- an entry that names one number of the IP header, and packets with these
abbrev header_entry : Option ℕ → Option ℕ → Option ℕ → Option ℕ → Entry
header_entry dscp ecn len ttl = record {
  acl = [];
  name = [];
  family = family.V4;
  selectors = [];
  own = None;
  protocol = None;
  dscp = dscp;
  ecn = ecn;
  length = len;
  ttl = ttl;
  layer = layer.Any;
  action = action.Accept;
}

abbrev header_packet : ℕ → ℕ → ℕ → ℕ → Fields
header_packet dscp ecn len ttl = record { src = thing; dst = peer; protocol = 6; dscp = dscp; ecn = ecn; length = len; ttl = ttl; transport = syn }

-- what an entry makes of a packet with its own numbers, and of those where one of them is another
abbrev over_headers : Entry → List Bool
over_headers entry = map (λ fields. rest_matches entry fields From None) (header_packet 46 1 1500 64 ∷ header_packet 45 1 1500 64 ∷ header_packet 46 2 1500 64 ∷ header_packet 46 1 1501 64 ∷ header_packet 46 1 1500 63 ∷ header_packet 1 46 64 1500 ∷ [])

dscp_named : over_headers (header_entry (Some 46) None None None) ≡ true ∷ false ∷ true ∷ true ∷ true ∷ false ∷ []
unfolding acl_on_literals
dscp_named = refl

ecn_named : over_headers (header_entry None (Some 1) None None) ≡ true ∷ true ∷ false ∷ true ∷ true ∷ false ∷ []
unfolding acl_on_literals
ecn_named = refl

length_named : over_headers (header_entry None None (Some 1500) None) ≡ true ∷ true ∷ true ∷ false ∷ true ∷ false ∷ []
unfolding acl_on_literals
length_named = refl

ttl_named : over_headers (header_entry None None None (Some 64)) ≡ true ∷ true ∷ true ∷ true ∷ false ∷ false ∷ []
unfolding acl_on_literals
ttl_named = refl

all_named : over_headers (header_entry (Some 46) (Some 1) (Some 1500) (Some 64)) ≡ true ∷ false ∷ false ∷ false ∷ false ∷ false ∷ []
unfolding acl_on_literals
all_named = refl

-- 0 is a number like others
zero_named : over_headers (header_entry (Some 0) None None None) ≡ false ∷ false ∷ false ∷ false ∷ false ∷ false ∷ []
unfolding acl_on_literals
zero_named = refl

-- ---- Near selectors

abbrev near_entry : List Selector → Entry
near_entry selectors = entry_with selectors None None layer.Any action.Accept

no_local_network : near_matches (near_entry (asks.LocalNetworks ∷ [])) peer [] ≡ false
unfolding acl_on_literals
no_local_network = refl

local_network : near_matches (near_entry (asks.LocalNetworks ∷ [])) peer (thing_network ∷ peer_network ∷ []) ≡ true
unfolding acl_on_literals
local_network = refl

peer_in_network : map (λ prefix. near_matches (near_entry (asks.Network prefix ∷ [])) peer []) (peer_network ∷ thing_network ∷ []) ≡ true ∷ false ∷ []
unfolding acl_on_literals
peer_in_network = refl

-- each of them is to be met, and a member selector isn't asked
each_near_selector : near_matches (near_entry (asks.MyController ∷ asks.Network peer_network ∷ asks.LocalNetworks ∷ [])) peer (thing_network ∷ []) ≡ false
unfolding acl_on_literals
each_near_selector = refl

member_not_asked : near_matches (near_entry (asks.MyController ∷ asks.Network peer_network ∷ [])) peer [] ≡ true
unfolding acl_on_literals
member_not_asked = refl

-- ---- The default entries

-- the peer is in the class of DNS servers, or of NTP servers
abbrev in_class : List ℕ → Selector → Addr → Bool
in_class class (asks.Controller uri) a = bytes_eq uri class
in_class class _ a = false

abbrev dns_server : Selector → Addr → Bool
dns_server = in_class (codes "urn:ietf:params:mud:dns")

abbrev ntp_server : Selector → Addr → Bool
ntp_server = in_class (codes "urn:ietf:params:mud:ntp")

abbrev udp : ℕ → ℕ → Transport
udp from to = packet.Udp from to

dns_query : map (λ transport. entry_matches dns_server From (sent 17 transport) None (default_entry Dns From)) (udp 40000 53 ∷ udp 53 40000 ∷ udp 40000 123 ∷ packet.Tcp 40000 53 2 ∷ []) ≡ true ∷ false ∷ false ∷ false ∷ []
unfolding acl_on_literals
dns_query = refl

dns_answer : map (λ transport. entry_matches dns_server To (received 17 transport) None (default_entry Dns To)) (udp 53 40000 ∷ udp 40000 53 ∷ []) ≡ true ∷ false ∷ []
unfolding acl_on_literals
dns_answer = refl

ntp_query : map (λ transport. entry_matches ntp_server From (sent 17 transport) None (default_entry Ntp From)) (udp 123 123 ∷ udp 123 40000 ∷ udp 40000 53 ∷ []) ≡ true ∷ false ∷ false ∷ []
unfolding acl_on_literals
ntp_query = refl

ntp_answer : map (λ transport. entry_matches ntp_server To (received 17 transport) None (default_entry Ntp To)) (udp 123 40000 ∷ udp 40000 123 ∷ []) ≡ true ∷ false ∷ []
unfolding acl_on_literals
ntp_answer = refl

-- the peer is to be of the class
dns_of_ntp_server : entry_matches ntp_server From (sent 17 (udp 40000 53)) None (default_entry Dns From) ≡ false
unfolding acl_on_literals
dns_of_ntp_server = refl

defaults_over_v6 : entry_matches dns_server From (record { src = addr.V6 1; dst = addr.V6 2; protocol = 17; dscp = 0; ecn = 0; length = 60; ttl = 64; transport = udp 40000 53 }) None (default_entry Dns From) ≡ true
unfolding acl_on_literals
defaults_over_v6 = refl

-- ---- The first match

-- A file blocks DNS by the default's own match with the action drop (RFC 8520, Appendix A); what follows accepts.
abbrev no_dns : Policy
no_dns = record {
  outgoing = entry_with [] None None (layer.Udp port.Any (port.Eq 53)) action.Drop ∷ layer_entry (layer.Udp port.Any port.Any) ∷ [];
  incoming = [];
}

abbrev ruling_on : Option Policy → ℕ → Transport → Ruling
ruling_on policy protocol transport = ruling_by (entry_matches dns_server From (sent protocol transport) None) From policy

earlier_drop : ruling_on (Some no_dns) 17 (udp 40000 53) ≡ Drop 1
unfolding acl_on_literals
earlier_drop = refl

later_accept : ruling_on (Some no_dns) 17 (udp 40000 5000) ≡ Accept 2
unfolding acl_on_literals
later_accept = refl

no_entry_matches : ruling_on (Some no_dns) 6 syn ≡ DropDefault NoMatch
unfolding acl_on_literals
no_entry_matches = refl

no_file : ruling_on None 6 syn ≡ DropDefault NoFile
unfolding acl_on_literals
no_file = refl

default_without_file : ruling_on None 17 (udp 40000 53) ≡ AcceptDefault Dns
unfolding acl_on_literals
default_without_file = refl

-- the other side's entries aren't asked
default_behind_other_side : ruling_by (entry_matches ntp_server To (received 17 (udp 123 40000)) None) To (Some no_dns) ≡ AcceptDefault Ntp
unfolding acl_on_literals
default_behind_other_side = refl

-- ---- Keys

abbrev lightbulb : List ℕ
lightbulb = codes "https://lighting.example.com/lightbulb2000"

same_manufacturer : key_of lightbulb asks.SameManufacturer ≡ Some (of_key.Host (codes "lighting.example.com"))
unfolding acl_on_literals
same_manufacturer = refl

my_controller : key_of lightbulb asks.MyController ≡ Some (of_key.Mine lightbulb)
unfolding acl_on_literals
my_controller = refl

-- a DNS name is no manufacturer
name_is_no_host : map (has_key lightbulb (of_key.Host (codes "lighting.example.com"))) (asks.Name (codes "lighting.example.com") ∷ asks.Manufacturer (codes "lighting.example.com") ∷ []) ≡ false ∷ true ∷ []
unfolding acl_on_literals
name_is_no_host = refl

-- ---- Policies by URL

policy_of_url : map (policy_in (record { url = codes "https://lighting.example.com/"; policy = default_policy } ∷ record { url = lightbulb; policy = no_dns } ∷ [])) (lightbulb ∷ codes "https://lighting.example.com/switch1" ∷ []) ≡ Some no_dns ∷ None ∷ []
unfolding acl_on_literals
policy_of_url = refl

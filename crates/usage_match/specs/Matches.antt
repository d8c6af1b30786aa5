-- What the `matches` of an entry test (RFC 8519, 4.2; RFC 8520, 4).
use Rattle.std.specs.Prelude.{ℕ, Bool, ◌&&◌, ◌||◌, List, [], ◌∷◌, ◌++◌, Option, Some, None, unwrap_or, option_map, option_to_list, if◌then◌else◌}
use Rattle.mud_base.specs.declared.packet.Direction.{Direction}
use Rattle.mud_base.specs.declared.packet.Direction.TheVariants.{From, To}
use Rattle.mud_base.specs.Addresses.{PrefixParts}
use Rattle.acl_model.specs.declared.entry.Selector.{Selector}
use Rattle.acl_model.specs.declared.entry.Selector.TheVariants as asks
use Rattle.acl_model.specs.declared.entry.Layer.{Layer}
use Rattle.acl_model.specs.declared.entry.Layer.TheVariants as layer
use Rattle.serde_json.specs.Data.{Data}
use Rattle.usage_walk.specs.declared.fault.Rule.TheVariants as rule
use Rattle.usage_walk.specs.declared.member.Member.{Member}
use Rattle.usage_walk.specs.declared.member.Member.TheVariants as members
use Rattle.usage_walk.specs.declared.row.Row.{Row}
use Rattle.mud_base.specs.Readings.{done, ◌>>=◌, refused_where, where_there}
use Rattle.usage_walk.specs.Reading.{Reading, under, fault_at}
use Rattle.usage_walk.specs.Kinds.{object_where_there}
use Rattle.usage_walk.specs.Others.{all_known}
use Rattle.usage_walk.specs.Tables.{Ways, row, rows_of}
use Rattle.usage_match.specs.declared.entry_tests.ListType.{ListType}
use Rattle.usage_match.specs.declared.entry_tests.ListType.TheVariants.{Ipv4, Ipv6}
use Rattle.usage_match.specs.declared.entry_tests.MudTests.{MudTests}
use Rattle.usage_match.specs.declared.entry_tests.IpTests.{IpTests}
use Rattle.usage_match.specs.declared.entry_tests.Tests.{Tests}
use Rattle.usage_match.specs.declared.ways.LayerKind.TheVariants.{Tcp, Udp, Icmp}
use Rattle.usage_match.specs.declared.ways.MatchWay.{MatchWay}
use Rattle.usage_match.specs.declared.ways.MatchWay.TheVariants as way
use Rattle.usage_match.specs.declared.ways.MatchTests.{MatchTests}
use Rattle.usage_match.specs.Ports.{stands}
use Rattle.usage_match.specs.Containers.{no_mud_tests, mud_at, no_ip_tests, ip_at, layer_at}

-- ---- What the containers mean together

abbrev pub where_true : Bool → Selector → Option Selector
where_true holds selector = if holds then Some selector else None

-- those that addresses of other Things meet
unfoldable pub thing_selectors : Option (List ℕ) → Bool → Option (List ℕ) → List Selector
thing_selectors manufacturer same_manufacturer model =
    option_to_list (option_map asks.Manufacturer manufacturer)
    ++ option_to_list (where_true same_manufacturer asks.SameManufacturer)
    ++ option_to_list (option_map asks.Model model)

-- those that addresses meet by what the operator says
unfoldable pub operator_selectors : Bool → Option (List ℕ) → Bool → List Selector
operator_selectors local_networks controller my_controller =
    option_to_list (where_true local_networks asks.LocalNetworks)
    ++ option_to_list (option_map asks.Controller controller)
    ++ option_to_list (where_true my_controller asks.MyController)

unfoldable pub mud_selectors : MudTests → List Selector
mud_selectors mud =
    thing_selectors mud.manufacturer mud.same_manufacturer mud.model
    ++ operator_selectors mud.local_networks mud.controller mud.my_controller

-- the network of the Thing's own side
unfoldable pub own_network : Direction → IpTests → Option PrefixParts
own_network From ip = ip.source
own_network To ip = ip.destination

-- the network and the name of the peer's side
unfoldable pub peer_network : Direction → IpTests → Option PrefixParts
peer_network From ip = ip.destination
peer_network To ip = ip.source

unfoldable pub peer_name : Direction → IpTests → Option (List ℕ)
peer_name From ip = ip.destination_name
peer_name To ip = ip.source_name

unfoldable pub ip_selectors : Direction → IpTests → List Selector
ip_selectors side ip =
    option_to_list (option_map asks.Network (peer_network side ip))
    ++ option_to_list (option_map asks.Name (peer_name side ip))

unfoldable pub tests_of : Direction → MudTests → IpTests → Layer → Tests
tests_of side mud ip header = record {
  selectors = mud_selectors mud ++ ip_selectors side ip;
  own = own_network side ip;
  protocol = ip.protocol;
  dscp = ip.dscp;
  ecn = ip.ecn;
  length = ip.length;
  ttl = ip.ttl;
  layer = header;
}

-- nothing is tested
unfoldable pub no_tests : Tests
no_tests = record { selectors = []; own = None; protocol = None; dscp = None; ecn = None; length = None; ttl = None; layer = layer.Any }

-- ---- Their reading. The path is that of `matches`.

unfoldable pub ip_member : ListType → Member
ip_member Ipv4 = members.Ipv4
ip_member Ipv6 = members.Ipv6

unfoldable pub other_ip_member : ListType → Member
other_ip_member Ipv4 = members.Ipv6
other_ip_member Ipv6 = members.Ipv4

unfoldable pub has_two_layers : Data → Bool
has_two_layers d =
    (stands members.Tcp d && stands members.Udp d)
    || (stands members.Tcp d && stands members.Icmp d)
    || (stands members.Udp d && stands members.Icmp d)

-- the members of `matches`, in a list of this type that is read for this direction
unfoldable pub match_rows : ListType → Direction → List (Row MatchWay)
match_rows type side =
    row members.Mud way.Mud
    ∷ row (ip_member type) (way.Ip type side)
    ∷ row (other_ip_member type) way.Refused
    ∷ row members.Tcp (way.Layer Tcp)
    ∷ row members.Udp (way.Layer Udp)
    ∷ row members.Icmp (way.Layer Icmp)
    ∷ []

-- which members stand: known ones, no container of the other IP version, and one layer at most
unfoldable pub members_fit : ListType → Direction → List ℕ → Data → Reading (Unit {0})
members_fit type side path d = do
  _ ← all_known path (match_rows type side) d
  _ ← refused_where (stands (other_ip_member type) d) (fault_at rule.Family (under path (other_ip_member type)))
  refused_where (has_two_layers d) (fault_at rule.TwoLayers path)

-- the container of the other IP version doesn't stand; absent layers ask nothing, and one stands at most
unfoldable pub match_ways : Ways MatchWay MatchTests
match_ways way.Mud path m d tests = do
  found ← mud_at path m d
  done (record tests { mud = found })
match_ways (way.Ip type side) path m d tests = do
  found ← ip_at type side path m d
  done (record tests { ip = found })
match_ways way.Refused path m d tests = done tests
match_ways (way.Layer kind) path m d tests = do
  found ← layer_at kind path m d
  done (record tests { layer = unwrap_or found tests.layer })

unfoldable pub matches_of : ListType → Direction → List ℕ → Data → Reading Tests
matches_of type side path d = do
  _ ← members_fit type side path d
  tests ← rows_of match_ways path (match_rows type side) d (record { mud = no_mud_tests; ip = no_ip_tests; layer = layer.Any })
  done (tests_of side tests.mud tests.ip tests.layer)

-- the tests of an entry at this path; without `matches` it tests nothing
unfoldable pub tests_at : ListType → Direction → List ℕ → Data → Reading Tests
tests_at type side path entry = do
  matches ← object_where_there path members.Matches (Some entry)
  found ← where_there (matches_of type side (under path members.Matches)) matches
  done (unwrap_or found no_tests)

-- The containers inside `matches`. Each is an object that is read by its table.
use Rattle.std.specs.Prelude.{ℕ, Bool, true, false, not, ◌&&◌, List, [], ◌∷◌, Option, Some, None, unwrap_or, option_map}
use Rattle.mud_base.specs.declared.packet.Direction.{Direction}
use Rattle.mud_base.specs.declared.packet.Direction.TheVariants.{From, To}
use Rattle.acl_model.specs.declared.entry.Layer.{Layer}
use Rattle.acl_model.specs.declared.entry.Layer.TheVariants as layer
use Rattle.acl_model.specs.declared.entry.PortTest.TheVariants as port
use Rattle.serde_json.specs.Data.{Data}
use Rattle.usage_walk.specs.declared.fault.Rule.TheVariants as rule
use Rattle.usage_walk.specs.declared.member.Member.{Member}
use Rattle.usage_walk.specs.declared.member.Member.TheVariants as members
use Rattle.usage_walk.specs.declared.row.Row.{Row}
use Rattle.mud_base.specs.Readings.{done, ◌>>=◌, refused_where}
use Rattle.usage_walk.specs.Reading.{Reading, under, fault_at}
use Rattle.usage_walk.specs.Kinds.{leaf_where_there}
use Rattle.usage_walk.specs.Tables.{Ways, row, container_at}
use Rattle.usage_match.specs.declared.entry_tests.ListType.{ListType}
use Rattle.usage_match.specs.declared.entry_tests.ListType.TheVariants.{Ipv4, Ipv6}
use Rattle.usage_match.specs.declared.entry_tests.MudTests.{MudTests}
use Rattle.usage_match.specs.declared.entry_tests.IpTests.{IpTests}
use Rattle.usage_match.specs.declared.ways.MudWay.{MudWay}
use Rattle.usage_match.specs.declared.ways.MudWay.TheVariants as mud
use Rattle.usage_match.specs.declared.ways.IpWay.{IpWay}
use Rattle.usage_match.specs.declared.ways.IpWay.TheVariants as ip
use Rattle.usage_match.specs.declared.ways.LayerKind.{LayerKind}
use Rattle.usage_match.specs.declared.ways.LayerKind.TheVariants.{Tcp, Udp, Icmp}
use Rattle.usage_match.specs.declared.ways.LayerWay.{LayerWay}
use Rattle.usage_match.specs.declared.ways.LayerWay.TheVariants as way
use Rattle.usage_match.specs.declared.ways.LayerTests.{LayerTests}
use Rattle.usage_match.specs.Texts.{octet_where_there, length_where_there, host_where_there, model_where_there, network_where_there, direction_where_there, meant_where_there, uri_in}
use Rattle.usage_match.specs.Flags.{flags_where_there}
use Rattle.usage_match.specs.Ports.{stands, port_where_there}

-- ---- `ietf-mud:mud` (RFC 8520, 4)

unfoldable pub mud_rows : List (Row MudWay)
mud_rows =
    row members.Manufacturer mud.Manufacturer
    ∷ row members.SameManufacturer mud.SameManufacturer
    ∷ row members.Model mud.Model
    ∷ row members.LocalNetworks mud.LocalNetworks
    ∷ row members.Controller mud.Controller
    ∷ row members.MyController mud.MyController
    ∷ []

unfoldable pub mud_ways : Ways MudWay MudTests
mud_ways mud.Manufacturer path m d tests = do
  found ← host_where_there path m d
  done (record tests { manufacturer = found })
mud_ways mud.SameManufacturer path m d tests = do
  found ← leaf_where_there path m (Some d)
  done (record tests { same_manufacturer = found })
mud_ways mud.Model path m d tests = do
  found ← model_where_there path m d
  done (record tests { model = found })
mud_ways mud.LocalNetworks path m d tests = do
  found ← leaf_where_there path m (Some d)
  done (record tests { local_networks = found })
mud_ways mud.Controller path m d tests = do
  -- the URI of a class, where it is there
  found ← meant_where_there [] rule.NameText uri_in path m d
  done (record tests { controller = found })
mud_ways mud.MyController path m d tests = do
  found ← leaf_where_there path m (Some d)
  done (record tests { my_controller = found })

-- nothing is asked of the peer
unfoldable pub no_mud_tests : MudTests
no_mud_tests = record { manufacturer = None; same_manufacturer = false; model = None; local_networks = false; controller = None; my_controller = false }

-- what `ietf-mud:mud` asks; absent it asks nothing
unfoldable pub mud_at : List ℕ → Member → Data → Reading MudTests
mud_at path m d = do
  found ← container_at mud_ways mud_rows no_mud_tests path m d
  done (unwrap_or found no_mud_tests)

-- ---- `ipv4` and `ipv6` (RFC 8519, 4.2; RFC 8520, 8)

unfoldable pub source_network : ListType → Member
source_network Ipv4 = members.SourceIpv4Network
source_network Ipv6 = members.SourceIpv6Network

unfoldable pub destination_network : ListType → Member
destination_network Ipv4 = members.DestinationIpv4Network
destination_network Ipv6 = members.DestinationIpv6Network

-- the Thing is the source of what it sends, and the destination of what it receives
unfoldable pub is_source : Direction → Bool
is_source From = true
is_source To = false

unfoldable pub ip_rows : ListType → Direction → List (Row IpWay)
ip_rows type side =
    row members.Dscp ip.Dscp
    ∷ row members.Ecn ip.Ecn
    ∷ row members.Length ip.Length
    ∷ row members.Ttl ip.Ttl
    ∷ row members.Protocol ip.Protocol
    ∷ row (source_network type) (ip.Source type)
    ∷ row (destination_network type) (ip.Destination type)
    ∷ row members.SrcDnsname (ip.SourceName (is_source side))
    ∷ row members.DstDnsname (ip.DestinationName (not (is_source side)))
    ∷ []

-- a DNS name may not stand at the Thing's own side; at the peer's it is a host name
unfoldable pub name_where_there : Bool → List ℕ → Member → Data → Reading (Option (List ℕ))
name_where_there is_own path m d = do
  _ ← refused_where (is_own && stands m d) (fault_at rule.NameSide (under path m))
  host_where_there path m d

unfoldable pub ip_ways : Ways IpWay IpTests
ip_ways ip.Dscp path m d tests = do
  found ← octet_where_there 63 path m d
  done (record tests { dscp = found })
ip_ways ip.Ecn path m d tests = do
  found ← octet_where_there 3 path m d
  done (record tests { ecn = found })
ip_ways ip.Length path m d tests = do
  found ← length_where_there path m d
  done (record tests { length = found })
ip_ways ip.Ttl path m d tests = do
  found ← octet_where_there 255 path m d
  done (record tests { ttl = found })
ip_ways ip.Protocol path m d tests = do
  found ← octet_where_there 255 path m d
  done (record tests { protocol = found })
ip_ways (ip.Source type) path m d tests = do
  found ← network_where_there type path m d
  done (record tests { source = found })
ip_ways (ip.Destination type) path m d tests = do
  found ← network_where_there type path m d
  done (record tests { destination = found })
ip_ways (ip.SourceName is_own) path m d tests = do
  found ← name_where_there is_own path m d
  done (record tests { source_name = found })
ip_ways (ip.DestinationName is_own) path m d tests = do
  found ← name_where_there is_own path m d
  done (record tests { destination_name = found })

-- nothing is asked
unfoldable pub no_ip_tests : IpTests
no_ip_tests = record { dscp = None; ecn = None; length = None; ttl = None; protocol = None; source = None; destination = None; source_name = None; destination_name = None }

-- what `ipv4` or `ipv6` asks; absent it asks nothing
unfoldable pub ip_at : ListType → Direction → List ℕ → Member → Data → Reading IpTests
ip_at type side path m d = do
  found ← container_at ip_ways (ip_rows type side) no_ip_tests path m d
  done (unwrap_or found no_ip_tests)

-- ---- `tcp`, `udp` and `icmp` (RFC 8519, 4.2; RFC 8520, 4.8)

-- a direction stands in `tcp` alone
unfoldable pub no_direction : List ℕ → Member → Data → Reading (Unit {0})
no_direction path m d = refused_where (stands m d) (fault_at rule.DirectionNotTcp (under path m))

unfoldable pub layer_rows : LayerKind → List (Row LayerWay)
layer_rows Tcp =
    row members.SourcePort way.Source
    ∷ row members.DestinationPort way.Destination
    ∷ row members.DirectionInitiated way.Begun
    ∷ row members.Flags way.Flags
    ∷ []
layer_rows Udp =
    row members.SourcePort way.Source
    ∷ row members.DestinationPort way.Destination
    ∷ row members.DirectionInitiated way.Refused
    ∷ []
layer_rows Icmp =
    row members.Kind way.Kind
    ∷ row members.Code way.Code
    ∷ row members.DirectionInitiated way.Refused
    ∷ []

unfoldable pub layer_ways : Ways LayerWay LayerTests
layer_ways way.Source path m d tests = do
  found ← port_where_there path m d
  done (record tests { source = found })
layer_ways way.Destination path m d tests = do
  found ← port_where_there path m d
  done (record tests { destination = found })
layer_ways way.Begun path m d tests = do
  found ← direction_where_there path m d
  done (record tests { begun = found })
layer_ways way.Flags path m d tests = do
  found ← flags_where_there path m d
  done (record tests { flags = found })
layer_ways way.Kind path m d tests = do
  found ← octet_where_there 255 path m d
  done (record tests { kind = found })
layer_ways way.Code path m d tests = do
  found ← octet_where_there 255 path m d
  done (record tests { code = found })
layer_ways way.Refused path m d tests = do
  _ ← no_direction path m d
  done tests

unfoldable pub layer_of : LayerKind → LayerTests → Layer
layer_of Tcp tests = layer.Tcp tests.source tests.destination tests.begun tests.flags
layer_of Udp tests = layer.Udp tests.source tests.destination
layer_of Icmp tests = layer.Icmp tests.kind tests.code

-- what `tcp`, `udp` or `icmp` asks, where it is there
unfoldable pub layer_at : LayerKind → List ℕ → Member → Data → Reading (Option Layer)
layer_at kind path m d = do
  found ← container_at layer_ways (layer_rows kind) no_layer_tests path m d
  done (option_map (layer_of kind) found)
  where
    no_layer_tests : LayerTests
    no_layer_tests = record { source = port.Any; destination = port.Any; begun = None; flags = None; kind = None; code = None }

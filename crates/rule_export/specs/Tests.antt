-- The tests of an entry in the exchange form of access lists (RFC 8519, 4.2; RFC 7951; RFC 8520, 4.8), with one network in place
-- of what its selectors ask of the peer's address. The members of each object are in the order of the octets of their names.
use Rattle.std.specs.Prelude.{ℕ, Bool, true, false, ◌||◌, List, [], ◌∷◌, ◌++◌, codes, decimal, Option, Some, None, option_map, if◌then◌else◌}
use Rattle.std.specs.Option.{is_some}
use Rattle.mud_base.specs.Texts.{prefix_text}
use Rattle.mud_base.specs.declared.addr.Family.{Family}
use Rattle.mud_base.specs.declared.addr.Family.TheVariants as family
use Rattle.mud_base.specs.declared.prefix.Prefix.{Prefix}
use Rattle.mud_base.specs.declared.packet.Direction.{Direction}
use Rattle.mud_base.specs.declared.packet.Direction.TheVariants.{From, To}
use Rattle.acl_model.specs.declared.entry.PortTest.{PortTest}
use Rattle.acl_model.specs.declared.entry.PortTest.TheVariants as port
use Rattle.acl_model.specs.declared.entry.Layer.{Layer}
use Rattle.acl_model.specs.declared.entry.Layer.TheVariants as layer
use Rattle.acl_model.specs.declared.entry.Action.{Action}
use Rattle.acl_model.specs.declared.entry.Action.TheVariants as action
use Rattle.acl_model.specs.declared.entry.Entry.{Entry}
use Rattle.rule_export.specs.Objects.{Member, quoted, object}
use Rattle.rule_export.specs.Flags.{flags_text}

-- ---- Values

unfoldable pub number_value : Option ℕ → Option (List ℕ)
number_value number = option_map decimal number

unfoldable pub network_value : Option Prefix → Option (List ℕ)
network_value network = option_map (λ prefix. quoted (prefix_text prefix)) network

-- ---- The IP header

unfoldable pub version_name : Family → List ℕ
version_name family.V4 = codes "ipv4"
version_name _ = codes "ipv6"

unfoldable pub source_name : Family → List ℕ
source_name family.V4 = codes "source-ipv4-network"
source_name _ = codes "source-ipv6-network"

unfoldable pub destination_name : Family → List ℕ
destination_name family.V4 = codes "destination-ipv4-network"
destination_name _ = codes "destination-ipv6-network"

-- what a Thing on this side sends goes to the peer, and what it receives comes from the peer
unfoldable pub source_network : Direction → Option Prefix → Entry → Option Prefix
source_network From network entry = entry.own
source_network To network entry = network

unfoldable pub destination_network : Direction → Option Prefix → Entry → Option Prefix
destination_network From network entry = network
destination_network To network entry = entry.own

abbrev pub source_member : Family → Direction → Option Prefix → Entry → Member
source_member family side network entry = (source_name family, network_value (source_network side network entry))

abbrev pub destination_member : Family → Direction → Option Prefix → Entry → Member
destination_member family side network entry = (destination_name family, network_value (destination_network side network entry))

-- something is asked of the IP header
unfoldable pub asks_header : Option Prefix → Entry → Bool
asks_header network entry =
    is_some network || is_some entry.own || is_some entry.protocol || is_some entry.dscp || is_some entry.ecn || is_some entry.length || is_some entry.ttl

unfoldable pub header_members : Family → Direction → Option Prefix → Entry → List Member
header_members family side network entry =
    destination_member family side network entry
    ∷ (codes "dscp", number_value entry.dscp)
    ∷ (codes "ecn", number_value entry.ecn)
    ∷ (codes "length", number_value entry.length)
    ∷ (codes "protocol", number_value entry.protocol)
    ∷ source_member family side network entry
    ∷ (codes "ttl", number_value entry.ttl)
    ∷ []

-- it is left out where it would be empty
unfoldable pub header_value : Family → Direction → Option Prefix → Entry → Option (List ℕ)
header_value family side network entry = if asks_header network entry then Some (object (header_members family side network entry)) else None

-- ---- The transport header

unfoldable pub operator_text : List ℕ → ℕ → List ℕ
operator_text operator number = codes "{\"operator\":\"" ++ operator ++ codes "\",\"port\":" ++ decimal number ++ codes "}"

-- the test of a port; nothing where every port passes
unfoldable pub test_text : PortTest → List ℕ
test_text port.Any = []
test_text (port.Eq number) = operator_text (codes "eq") number
test_text (port.Neq number) = operator_text (codes "neq") number
test_text (port.Lte number) = operator_text (codes "lte") number
test_text (port.Gte number) = operator_text (codes "gte") number
test_text (port.Within lower upper) = object ((codes "lower-port", number_value (Some lower)) ∷ (codes "upper-port", number_value (Some upper)) ∷ [])

unfoldable pub is_any : PortTest → Bool
is_any port.Any = true
is_any _ = false

unfoldable pub port_value : PortTest → Option (List ℕ)
port_value test = if is_any test then None else Some (test_text test)

unfoldable pub beginner_value : Option Direction → Option (List ℕ)
beginner_value begun = option_map beginner_text begun
  where
    -- the side that begins the connection
    beginner_text : Direction → List ℕ
    beginner_text From = codes "\"from-device\""
    beginner_text To = codes "\"to-device\""

-- a layer without tests is written, and is empty
unfoldable pub icmp_value : Layer → Option (List ℕ)
icmp_value (layer.Icmp kind code) = Some (object ((codes "code", number_value code) ∷ (codes "type", number_value kind) ∷ []))
icmp_value _ = None

unfoldable pub tcp_value : Layer → Option (List ℕ)
tcp_value (layer.Tcp source destination begun flags) =
    Some (object ((codes "destination-port", port_value destination) ∷ (codes "flags", (option_map flags_text flags)) ∷ (codes "ietf-mud:direction-initiated", beginner_value begun) ∷ (codes "source-port", port_value source) ∷ []))
tcp_value _ = None

unfoldable pub udp_value : Layer → Option (List ℕ)
udp_value (layer.Udp source destination) = Some (object ((codes "destination-port", port_value destination) ∷ (codes "source-port", port_value source) ∷ []))
udp_value _ = None

-- ---- The whole entry

unfoldable pub matches_text : Family → Direction → Option Prefix → Entry → List ℕ
matches_text family side network entry = object (
    (codes "icmp", icmp_value entry.layer)
    ∷ (version_name family, header_value family side network entry)
    ∷ (codes "tcp", tcp_value entry.layer)
    ∷ (codes "udp", udp_value entry.layer)
    ∷ [])

unfoldable pub forwarding : Action → List ℕ
forwarding action.Accept = codes "accept"
forwarding action.Drop = codes "drop"

-- the entry under a name: its action, its tests, and the name
unfoldable pub entry_text : Family → Direction → Option Prefix → List ℕ → Entry → List ℕ
entry_text family side network name entry =
    codes "{\"actions\":{\"forwarding\":\"" ++ forwarding entry.action ++ codes "\"},\"matches\":"
    ++ matches_text family side network entry ++ codes ",\"name\":\"" ++ name ++ codes "\"}"

-- What the tests of an entry mean (RFC 8519, 4.2; RFC 8520, 4 and 8). Its selectors speak of the peer's address; which
-- addresses meet a member selector is the parameter `met` of the whole match.
use Rattle.std.specs.Prelude.{ℕ, Bool, true, false, not, ◌&&◌, ◌==◌, nat_le, List, Option, Some, None}
use Rattle.std.specs.List.{list_all, list_any}
use Rattle.mud_base.specs.Addresses.{prefix_holds}
use Rattle.mud_base.specs.declared.addr.Addr.{Addr}
use Rattle.mud_base.specs.declared.addr.Addr.TheVariants as addr
use Rattle.mud_base.specs.declared.addr.Family.{Family}
use Rattle.mud_base.specs.declared.addr.Family.TheVariants as family
use Rattle.mud_base.specs.declared.prefix.Prefix.{Prefix}
use Rattle.mud_base.specs.declared.packet.Direction.{Direction}
use Rattle.mud_base.specs.declared.packet.Direction.TheVariants.{From, To}
use Rattle.mud_base.specs.declared.packet.Fields.{Fields}
use Rattle.mud_base.specs.declared.packet.Transport.{Transport}
use Rattle.mud_base.specs.declared.packet.Transport.TheVariants as packet
use Rattle.acl_model.specs.declared.entry.Selector.{Selector}
use Rattle.acl_model.specs.declared.entry.Selector.TheVariants as asks
use Rattle.acl_model.specs.declared.entry.PortTest.{PortTest}
use Rattle.acl_model.specs.declared.entry.PortTest.TheVariants as port
use Rattle.acl_model.specs.declared.entry.Layer.{Layer}
use Rattle.acl_model.specs.declared.entry.Layer.TheVariants as layer
use Rattle.acl_model.specs.declared.entry.Entry.{Entry}

-- ---- The two endpoints of a packet, as a Thing on this side sees them (RFC 8520, 2)

unfoldable pub peer_of : Direction → Fields → Addr
peer_of From fields = fields.dst
peer_of To fields = fields.src

unfoldable pub own_of : Direction → Fields → Addr
own_of From fields = fields.src
own_of To fields = fields.dst

-- ---- The fields of the IP header

unfoldable pub is_in_family : Family → Addr → Bool
is_in_family family.Both a = true
is_in_family family.V4 (addr.V4 n) = true
is_in_family family.V4 (addr.V6 n) = false
is_in_family family.V6 (addr.V4 n) = false
is_in_family family.V6 (addr.V6 n) = true

-- the packet's addresses are of the family
unfoldable pub family_matches : Family → Fields → Bool
family_matches versions fields = is_in_family versions fields.src && is_in_family versions fields.dst

-- there is no prefix, or it holds the address
unfoldable pub prefix_passes : Option Prefix → Addr → Bool
prefix_passes None a = true
prefix_passes (Some prefix) a = prefix_holds prefix a

-- no number is named, or this one is
unfoldable pub number_passes : Option ℕ → ℕ → Bool
number_passes None n = true
number_passes (Some named) n = n == named

-- each number of the IP header that the entry names is the packet's
unfoldable pub header_matches : Entry → Fields → Bool
header_matches entry fields =
    number_passes entry.protocol fields.protocol
    && number_passes entry.dscp fields.dscp
    && number_passes entry.ecn fields.ecn
    && number_passes entry.length fields.length
    && number_passes entry.ttl fields.ttl

-- ---- The transport header

unfoldable pub port_passes : PortTest → ℕ → Bool
port_passes port.Any n = true
port_passes (port.Eq named) n = n == named
port_passes (port.Neq named) n = not (n == named)
port_passes (port.Lte most) n = nat_le n most
port_passes (port.Gte least) n = nat_le least n
port_passes (port.Within least most) n = nat_le least n && nat_le n most

-- no beginner is named, or this one is (RFC 8520, 4.8)
unfoldable pub begun_passes : Option Direction → Option Direction → Bool
begun_passes None begun = true
begun_passes (Some named) None = false
begun_passes (Some From) (Some From) = true
begun_passes (Some From) (Some To) = false
begun_passes (Some To) (Some From) = false
begun_passes (Some To) (Some To) = true

-- nothing is asked, or there is a header of this protocol and its fields pass; named flags are the whole octet, no mask
unfoldable pub layer_matches : Layer → Transport → Option Direction → Bool
layer_matches layer.Any transport begun = true
layer_matches (layer.Tcp source destination named named_flags) (packet.Tcp from to flags) begun = port_passes source from && port_passes destination to && begun_passes named begun && number_passes named_flags flags
layer_matches (layer.Udp source destination) (packet.Udp from to) begun = port_passes source from && port_passes destination to
layer_matches (layer.Icmp kind code) (packet.Icmp k c) begun = number_passes kind k && number_passes code c
layer_matches _ _ begun = false

-- all but the selectors
unfoldable pub rest_matches : Entry → Fields → Direction → Option Direction → Bool
rest_matches entry fields side begun =
    family_matches entry.family fields
    && prefix_passes entry.own (own_of side fields)
    && header_matches entry fields
    && layer_matches entry.layer fields.transport begun

-- ---- The peer's address

-- one of the local networks holds the address
unfoldable pub is_local : List Prefix → Addr → Bool
is_local locals a = list_any (λ prefix. prefix_holds prefix a) locals

-- a near selector is met by the local networks of the operator, or by the network that the entry itself names; a member
-- selector isn't asked here
unfoldable pub near_met : List Prefix → Addr → Selector → Bool
near_met locals a asks.LocalNetworks = is_local locals a
near_met locals a (asks.Network prefix) = prefix_holds prefix a
near_met locals a _ = true

unfoldable pub near_matches : Entry → Addr → List Prefix → Bool
near_matches entry peer locals = list_all (near_met locals peer) entry.selectors

-- ---- The whole match

unfoldable pub entry_matches : (Selector → Addr → Bool) → Direction → Fields → Option Direction → Entry → Bool
entry_matches met side fields begun entry = list_all (λ selector. met selector (peer_of side fields)) entry.selectors && rest_matches entry fields side begun

-- The bindings that the tables hold, live or not: which of them are live is asked at a moment. The ruling over the
-- bindings and the local networks.
use Rattle.std.specs.Prelude.{ℕ, Bool, true, ◌&&◌, List, [], ◌∷◌, ◌++◌, map, flat_map, Option, Some, None}
use Rattle.std.specs.List.{list_any, list_all}
use Rattle.mud_base.specs.Addresses.{same_addr}
use Rattle.mud_base.specs.declared.addr.Addr.{Addr}
use Rattle.mud_base.specs.declared.prefix.Prefix.{Prefix}
use Rattle.mud_base.specs.declared.packet.Direction.{Direction}
use Rattle.mud_base.specs.declared.packet.Fields.{Fields}
use Rattle.mud_url.specs.Url.{host_of}
use Rattle.acl_model.specs.declared.binding.MemberKey.{MemberKey}
use Rattle.acl_model.specs.declared.binding.MemberKey.TheVariants as of_key
use Rattle.acl_model.specs.declared.binding.Binding.{Binding}
use Rattle.acl_model.specs.declared.entry.Selector.{Selector}
use Rattle.acl_model.specs.declared.entry.Entry.{Entry}
use Rattle.acl_model.specs.declared.entry.Policy.{Policy}
use Rattle.acl_model.specs.declared.ruling.Ruling.{Ruling}
use Rattle.acl_model.specs.Keys.{key_of, same_key}
use Rattle.acl_model.specs.Match.{peer_of, near_matches, rest_matches}
use Rattle.acl_model.specs.FirstMatch.{ruling_by}
use Rattle.table_model.specs.declared.thing.Thing.{Thing}
use Rattle.table_model.specs.declared.bind.Class.{Class}
use Rattle.table_model.specs.declared.bind.Class.TheVariants as class
use Rattle.table_model.specs.declared.bind.ClassRow.{ClassRow}
use Rattle.table_model.specs.declared.bind.NameRow.{NameRow}
use Rattle.table_model.specs.Expiries.{is_live, for_ever}
use Rattle.table_model.specs.Tables.{Tables}

abbrev pub binding : MemberKey → Addr → ℕ → Binding
binding key a until = record { key = key; addr = a; until = until }

-- ---- The bindings of the tables

-- a lease binds its address to the host and to the URL of its Thing
unfoldable pub bindings_of_lease : Thing → Addr × ℕ → List Binding
bindings_of_lease thing r = binding (of_key.Host (host_of thing.url)) r.0 r.1 ∷ binding (of_key.Model thing.url) r.0 r.1 ∷ []

unfoldable pub thing_bindings : Thing → List Binding
thing_bindings thing = flat_map (bindings_of_lease thing) thing.leases

unfoldable pub member_key : Class → MemberKey
member_key (class.Uri uri) = of_key.Class uri
member_key (class.Mine url) = of_key.Mine url

-- an address of a class is bound to it for ever
unfoldable pub class_binding : ClassRow → Addr → Binding
class_binding row a = binding (member_key row.class) a for_ever

unfoldable pub class_bindings : ClassRow → List Binding
class_bindings row = map (class_binding row) row.addrs

unfoldable pub name_binding : NameRow → Addr × ℕ → Binding
name_binding row r = binding (of_key.Name row.name) r.0 r.1

unfoldable pub name_bindings : NameRow → List Binding
name_bindings row = map (name_binding row) row.addrs

-- the three parts: their keys are of different kinds, so none has a binding of another
unfoldable pub things_bindings : List Thing → List Binding
things_bindings things = flat_map thing_bindings things

unfoldable pub classes_bindings : List ClassRow → List Binding
classes_bindings classes = flat_map class_bindings classes

unfoldable pub names_bindings : List NameRow → List Binding
names_bindings names = flat_map name_bindings names

unfoldable pub bindings_of : Tables → List Binding
bindings_of tables = things_bindings tables.things ++ classes_bindings tables.classes ++ names_bindings tables.names

-- ---- The ruling over a list of bindings

-- the binding has the key and the address, and is live
unfoldable pub is_met_by : MemberKey → Addr → ℕ → Binding → Bool
is_met_by key a now b = same_key b.key key && (same_addr b.addr a && is_live b.until now)

-- some binding of the key has the address, and is live
unfoldable pub has_live_binding : List Binding → MemberKey → Addr → ℕ → Bool
has_live_binding bindings key a now = list_any (is_met_by key a now) bindings

-- a member selector is met by a live binding of its key; a near selector has no key: the local networks, or the network
-- that the entry itself names, meet it, and it isn't asked here
unfoldable pub key_met : List Binding → Option MemberKey → Addr → ℕ → Bool
key_met bindings None a now = true
key_met bindings (Some key) a now = has_live_binding bindings key a now

unfoldable pub selector_met : List Binding → List ℕ → Addr → ℕ → Selector → Bool
selector_met bindings url a now selector = key_met bindings (key_of url selector) a now

unfoldable pub members_met : List Binding → List ℕ → Entry → Addr → ℕ → Bool
members_met bindings url entry a now = list_all (selector_met bindings url a now) entry.selectors

-- the entry matches: its member selectors by the bindings, its near selectors by the local networks or by the network
-- that it names, and the rest
unfoldable pub matches_by_bindings : List Binding → List Prefix → ℕ → List ℕ → Direction → Fields → Option Direction → Entry → Bool
matches_by_bindings bindings locals now url side fields begun entry =
    members_met bindings url entry (peer_of side fields) now && (near_matches entry (peer_of side fields) locals && rest_matches entry fields side begun)

unfoldable pub ruling_by_bindings : List Binding → List Prefix → ℕ → List ℕ → Option Policy → Direction → Fields → Option Direction → Ruling
ruling_by_bindings bindings locals now url policy side fields begun =
    ruling_by (matches_by_bindings bindings locals now url side fields begun) side policy

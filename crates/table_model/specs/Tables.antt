-- The tables that say which addresses a selector means, the Things of a frame, and the ruling.
use Rattle.std.specs.Prelude.{ℕ, ◌%◌, Bool, ◌&&◌, ◌==◌, List, bytes_eq, slice_index_or, Option, None, if◌then◌else◌}
use Rattle.std.specs.List.{list_any}
use Rattle.mud_base.specs.Addresses.{prefix_holds}
use Rattle.mud_base.specs.declared.addr.Addr.{Addr}
use Rattle.mud_base.specs.declared.addr.Mac.{Mac}
use Rattle.mud_base.specs.declared.prefix.Prefix.{Prefix}
use Rattle.mud_base.specs.declared.packet.Direction.{Direction}
use Rattle.mud_base.specs.declared.packet.Fields.{Fields}
use Rattle.mud_url.specs.Url.{host_of}
use Rattle.acl_model.specs.declared.entry.Selector.{Selector}
use Rattle.acl_model.specs.declared.entry.Selector.TheVariants as asks
use Rattle.acl_model.specs.declared.entry.Policy.{Policy}
use Rattle.acl_model.specs.declared.ruling.Ruling.{Ruling}
use Rattle.acl_model.specs.Match.{is_local, entry_matches}
use Rattle.acl_model.specs.FirstMatch.{ruling_by}
use Rattle.table_model.specs.declared.thing.Thing.{Thing}
use Rattle.table_model.specs.declared.bind.Class.{Class}
use Rattle.table_model.specs.declared.bind.Class.TheVariants as class
use Rattle.table_model.specs.declared.bind.ClassRow.{ClassRow}
use Rattle.table_model.specs.declared.bind.NameRow.{NameRow}
use Rattle.table_model.specs.Expiries.{has_live}
use Rattle.table_model.specs.Things.{IsSoundThings, thing_at}
use Rattle.table_model.specs.Binds.{Binds, has_addr, IsSoundClasses, IsSoundLocals, IsSoundNames, key_of_class}

pub record Tables : Type 0 where
  pub things : List Thing
  pub classes : List ClassRow
  pub locals : List Prefix
  pub names : List NameRow

pub record IsSoundTables (tables : Tables) : Type 0 where
  pub things : IsSoundThings tables.things
  pub classes : IsSoundClasses tables.classes
  pub locals : IsSoundLocals tables.locals
  pub names : IsSoundNames tables.names

-- the classes, the local networks and the names of the tables
unfoldable pub binds_of : Tables → Binds
binds_of tables = record { classes = tables.classes; locals = tables.locals; names = tables.names }

-- the tables with other classes, local networks and names
unfoldable pub with_binds : Binds → Tables → Tables
with_binds binds tables = record { things = tables.things; classes = binds.classes; locals = binds.locals; names = binds.names }

-- ---- The Things of a frame

-- the Thing that it is for: none where it is for a group, even where a Thing is kept by that address
unfoldable pub destination_thing : Mac → List Thing → Option Thing
destination_thing mac things = if is_group mac then None else thing_at mac things
  where
    -- an address for more than one station: the bit that is sent first, the least of the first octet, is 1 (IEEE 802, 8.2.2)
    is_group : Mac → Bool
    is_group mac = slice_index_or mac.0 0 0 % 2 == 1

-- ---- Which addresses meet a selector

unfoldable pub has_host : List ℕ → Thing → Bool
has_host host thing = bytes_eq (host_of thing.url) host

unfoldable pub has_url : List ℕ → Thing → Bool
has_url url thing = bytes_eq thing.url url

-- a Thing that passes the test has a live lease of the address
unfoldable pub is_leased : (Thing → Bool) → Addr → ℕ → List Thing → Bool
is_leased test a now things = list_any (λ thing. test thing && has_lease a now thing) things
  where
    -- the Thing has a live lease of the address
    has_lease : Addr → ℕ → Thing → Bool
    has_lease a now thing = has_live a now thing.leases

-- the class has the address
unfoldable pub is_bound : Class → Addr → List ClassRow → Bool
is_bound c a classes = list_any (λ row. (bytes_eq (key_of_class row.class) (key_of_class c)) && has_addr a row.addrs) classes

-- the name has the address with a live expiry
unfoldable pub is_named : List ℕ → Addr → ℕ → List NameRow → Bool
is_named name a now names = list_any (λ row. bytes_eq row.name name && has_live a now row.addrs) names

-- The address meets the selector in the file of this URL, at this moment (RFC 8520, 4.1 to 4.7 and 8; RFC 8519, 4.2). An
-- address of the Thing itself isn't excepted.
unfoldable pub meets : Tables → ℕ → List ℕ → Selector → Addr → Bool
meets tables now url (asks.Controller uri) a = is_bound (class.Uri uri) a tables.classes
meets tables now url asks.MyController a = is_bound (class.Mine url) a tables.classes
meets tables now url (asks.Manufacturer host) a = is_leased (has_host host) a now tables.things
meets tables now url asks.SameManufacturer a = is_leased (has_host (host_of url)) a now tables.things
meets tables now url (asks.Model other) a = is_leased (has_url other) a now tables.things
meets tables now url (asks.Name name) a = is_named name a now tables.names
meets tables now url asks.LocalNetworks a = is_local tables.locals a
meets tables now url (asks.Network prefix) a = prefix_holds prefix a

-- ---- The ruling

-- The ruling on a packet of a Thing with this URL, whose approved file has this policy: the first matching entry of the
-- policy, then of the defaults, and else denial.
unfoldable pub ruling_of : Tables → ℕ → List ℕ → Option Policy → Direction → Fields → Option Direction → Ruling
ruling_of tables now url policy side fields begun = ruling_by (entry_matches (meets tables now url) side fields begun) side policy

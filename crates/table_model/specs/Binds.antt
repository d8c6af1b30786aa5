-- The classes, the local networks and the names.
use Rattle.std.specs.Prelude.{ℕ, ◌≤◌, Bool, true, false, not, ◌&&◌, ◌==◌, nat_le, nat_lt, IsTrue, List, [], ◌∷◌, length, filter, bytes_eq, Option}
use Rattle.std.specs.List.{list_any, list_all, AllByRecursion}
use Rattle.std.specs.Char.{is_ascii_graphic}
use Rattle.mud_base.specs.Addresses.{same_addr, addr_bits, masked}
use Rattle.base_rows.specs.Sortable.{row_at, set_row, without_row, SortKeysAscend}
use Rattle.base_rows.specs.Addresses.{addr_sort_key, prefix_sort_key}
use Rattle.base_rows.specs.Ascending.{sort_keys_ascend}
use Rattle.mud_base.specs.declared.addr.Addr.{Addr}
use Rattle.mud_base.specs.declared.prefix.Prefix.{Prefix}
use Rattle.mud_url.specs.Host.{is_host, lowered}
use Rattle.mud_url.specs.Url.{is_canonical}
use Rattle.table_model.specs.declared.bind.Class.{Class}
use Rattle.table_model.specs.declared.bind.Class.TheVariants as class
use Rattle.table_model.specs.declared.bind.ClassRow.{ClassRow}
use Rattle.table_model.specs.declared.bind.NameRow.{NameRow}
use Rattle.table_model.specs.Limits.{most}
use Rattle.table_model.specs.ItemFields.{IsNetwork}
use Rattle.table_model.specs.Fits.{FitsClass, FitsName}
use Rattle.table_model.specs.Expiries.{Expiries, is_live, are_ascending, have_expiries}

-- ---- Classes

-- the octets by which classes are ordered and kept
unfoldable pub key_of_class : Class → List ℕ
key_of_class (class.Uri uri) = 1 ∷ uri
key_of_class (class.Mine url) = 2 ∷ url

unfoldable pub class_key : ClassRow → List ℕ
class_key row = key_of_class row.class

unfoldable pub class_at : Class → List ClassRow → Option ClassRow
class_at c classes = row_at class_key (key_of_class c) classes

-- the classes with this row, in place of the one of its class
unfoldable pub set_class : ClassRow → List ClassRow → List ClassRow
set_class row classes = set_row class_key row classes

unfoldable pub without_class : Class → List ClassRow → List ClassRow
without_class c classes = without_row class_key (key_of_class c) classes

unfoldable pub class_row : Class → List Addr → ClassRow
class_row c addrs = record { class = c; addrs = addrs }

-- ---- Addresses without expiries

unfoldable pub has_addr : Addr → List Addr → Bool
has_addr a addrs = list_any (λ b. same_addr b a) addrs

-- the addresses with this one put in, in their order
unfoldable pub with_addr : Addr → List Addr → List Addr
with_addr a addrs = set_row addr_sort_key a addrs

unfoldable pub without_addr : Addr → List Addr → List Addr
without_addr a addrs = filter (λ b. not (same_addr b a)) addrs

-- ---- Local networks: prefixes in order, each once

abbrev pub prefix_with : Addr → ℕ → Prefix
prefix_with addr len = record { addr = addr; len = len }

unfoldable pub same_prefix : Prefix → Prefix → Bool
same_prefix p q = same_addr p.addr q.addr && p.len == q.len

-- the prefixes in order, each once
unfoldable pub prefixes_in_order : List Prefix → List Prefix
prefixes_in_order [] = []
prefixes_in_order (p ∷ ps) = with_prefix p (prefixes_in_order ps)
  where
    -- the prefixes with this one put in, in the order of their addresses and then the lesser length
    with_prefix : Prefix → List Prefix → List Prefix
    with_prefix p prefixes = set_row prefix_sort_key p prefixes

unfoldable pub same_prefixes : List Prefix → List Prefix → Bool
same_prefixes [] [] = true
same_prefixes (p ∷ ps) (q ∷ qs) = same_prefix p q && same_prefixes ps qs
same_prefixes [] (q ∷ qs) = false
same_prefixes (p ∷ ps) [] = false

-- in their order, each prefix once
unfoldable pub are_prefixes : List Prefix → Bool
are_prefixes prefixes = sort_keys_ascend prefix_sort_key prefixes

-- ---- Names

unfoldable pub name_of : NameRow → List ℕ
name_of row = row.name

unfoldable pub name_at : List ℕ → List NameRow → Option NameRow
name_at name names = row_at name_of name names

-- the names with this row, in place of the one of its name
unfoldable pub set_name : NameRow → List NameRow → List NameRow
set_name row names = set_row name_of row names

unfoldable pub without_name : List ℕ → List NameRow → List NameRow
without_name name names = without_row name_of name names

unfoldable pub name_row : List ℕ → Expiries → NameRow
name_row name addrs = record { name = name; addrs = addrs }

unfoldable pub has_live_row : ℕ → NameRow → Bool
has_live_row now row = list_any (λ r. is_live r.1 now) row.addrs

-- ---- The three lists together

pub record Binds : Type 0 where
  pub classes : List ClassRow
  pub locals : List Prefix
  pub names : List NameRow

-- ---- What holds of every such list

-- 1 to 255 octets from 21 to 7E hex
unfoldable pub is_class_uri : List ℕ → Bool
is_class_uri uri = nat_lt 0 (length uri) && nat_le (length uri) 255 && list_all is_ascii_graphic uri

unfoldable pub is_class : Class → Bool
is_class (class.Uri uri) = is_class_uri uri
is_class (class.Mine url) = is_canonical url

-- its addresses in their order, each once, 1 to 64 of them
unfoldable pub is_sound_class : ClassRow → Bool
is_sound_class row =
    is_class row.class && (sort_keys_ascend addr_sort_key row.addrs) && nat_lt 0 (length row.addrs) && nat_le (length row.addrs) most.class_addresses

-- a prefix fixes no more bits than there are, and the others are 0
unfoldable pub is_prefix : Prefix → Bool
is_prefix prefix = nat_le prefix.len (addr_bits prefix.addr) && same_addr (masked prefix.addr prefix.len) prefix.addr

-- a host name in lower case
unfoldable pub is_name : List ℕ → Bool
is_name name = is_host name && bytes_eq (lowered name) name

unfoldable pub is_sound_name : NameRow → Bool
is_sound_name row =
    is_name row.name && are_ascending row.addrs && have_expiries row.addrs && nat_lt 0 (length row.addrs) && nat_le (length row.addrs) most.name_addresses

-- a row that can be kept: it is sound, and fits the fields of its item
pub record IsKeptClass (row : ClassRow) : Type 0 where
  pub sound : IsTrue (is_sound_class row)
  pub fits : FitsClass row

pub record IsKeptNetwork (prefix : Prefix) : Type 0 where
  pub sound : IsTrue (is_prefix prefix)
  pub fits : IsNetwork prefix

pub record IsKeptName (row : NameRow) : Type 0 where
  pub sound : IsTrue (is_sound_name row)
  pub fits : FitsName row

pub record IsSoundClasses (classes : List ClassRow) : Type 0 where
  pub ascend : SortKeysAscend class_key classes
  pub each : AllByRecursion IsKeptClass classes
  pub few : length classes ≤ most.classes

pub record IsSoundLocals (locals : List Prefix) : Type 0 where
  pub ascend : IsTrue (are_prefixes locals)
  pub each : AllByRecursion IsKeptNetwork locals
  pub few : length locals ≤ most.locals

pub record IsSoundNames (names : List NameRow) : Type 0 where
  pub ascend : SortKeysAscend name_of names
  pub each : AllByRecursion IsKeptName names
  pub few : length names ≤ most.names

pub record IsSoundBinds (binds : Binds) : Type 0 where
  pub classes : IsSoundClasses binds.classes
  pub locals : IsSoundLocals binds.locals
  pub names : IsSoundNames binds.names

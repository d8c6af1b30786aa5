-- The items in which classes, local networks, names and the stamp are kept, and when an item is one.
use Rattle.std.specs.Prelude.{◌≡◌, ℕ, ◌<◌, Bool, ◌&&◌, ◌==◌, nat_lt, nat_le, IsTrue, List, [], ◌∷◌, ◌++◌, length, map, Option, Some, None, if◌then◌else◌}
use Rattle.std.specs.List.{list_all}
use Rattle.base_rows.specs.Sortable.{comes_last}
use Rattle.mud_base.specs.declared.prefix.Prefix.{Prefix}
use Rattle.mud_world.specs.declared.item.Item.{Item}
use Rattle.mud_world.specs.declared.item.Put.{Put}
use Rattle.mud_world.specs.Items.{kind_of_put}
use Rattle.item_codec.specs.Kinds.{file_kind, class_kind, locals_kind, name_kind, stamp_kind}
use Rattle.item_codec.specs.Spelling.{number, version}
use Rattle.item_codec.specs.Records.{◌>>=◌, number_in, version_in, end_in, list_body, list_body_in}
use Rattle.table_model.specs.declared.bind.Class.{Class}
use Rattle.table_model.specs.declared.bind.Class.TheVariants.{Uri, Mine}
use Rattle.table_model.specs.declared.bind.ClassRow.{ClassRow}
use Rattle.table_model.specs.declared.bind.NameRow.{NameRow}
use Rattle.table_model.specs.Limits.{most}
use Rattle.table_model.specs.Binds.{class_key, class_row, is_sound_class, are_prefixes, is_prefix, name_of, name_row, is_sound_name, IsKeptClass, IsKeptName}
use Rattle.table_model.specs.Fits.{FitsLocals}
use Rattle.table_model.specs.ItemFields.{address, address_in, expiring, expiring_in, network_in}

-- ---- Classes: the key is 1 and the URI, or 2 and the MUD URL; the body has the addresses

unfoldable pub class_item : ClassRow → Item
class_item row = record { kind = class_kind; key = class_key row; body = list_body address row.addrs }

-- the class of a key
unfoldable pub class_of_key : List ℕ → Option Class
class_of_key [] = None
class_of_key (which ∷ text) = if which == 1 then Some (Uri text) else (if which == 2 then Some (Mine text) else None)

-- the class of an item: a URI has 1 to 255 octets from 21 to 7E hex, a MUD URL is canonical, and there are 1 to 64
-- addresses in their order, each once
unfoldable pub class_in : Item → Option ClassRow
class_in item =
    if item.kind == class_kind then (do
      class ← class_of_key item.key
      addrs ← list_body_in address_in item.body
      if_sound_class (class_row class addrs)) else None
  where
    if_sound_class : ClassRow → Option ClassRow
    if_sound_class row = if is_sound_class row then Some row else None

-- the classes with that of the item, where it is one that may stand behind them
unfoldable pub with_class_item : List ClassRow → Item → Option (List ClassRow)
with_class_item classes item = do
  row ← class_in item
  if comes_last class_key row classes && nat_lt (length classes) most.classes then Some (classes ++ row ∷ []) else None

-- ---- Local networks: one item with the empty key for all of them, and none where there are none

unfoldable pub locals_item : List Prefix → Item
locals_item locals = record { kind = locals_kind; key = []; body = list_body (λ (prefix : Prefix). address prefix.addr ++ number 1 prefix.len) locals }

unfoldable pub locals_items : List Prefix → List Item
locals_items [] = []
locals_items (prefix ∷ more) = locals_item (prefix ∷ more) ∷ []

-- 1 to 64 prefixes in their order, each once, each with a length of at most 32 or 128 and the other bits at 0
unfoldable pub are_locals : List Prefix → Bool
are_locals locals = are_prefixes locals && list_all is_prefix locals && nat_lt 0 (length locals) && nat_le (length locals) most.locals

unfoldable pub locals_in : Item → Option (List Prefix)
locals_in item =
    if item.kind == locals_kind && length item.key == 0 then (do
      locals ← list_body_in network_in item.body
      if_sound_locals locals) else None
  where
    if_sound_locals : List Prefix → Option (List Prefix)
    if_sound_locals locals = if are_locals locals then Some locals else None

-- the local networks with those of the item, where none are taken yet
unfoldable pub with_locals_item : List Prefix → Item → Option (List Prefix)
with_locals_item [] item = locals_in item
with_locals_item (prefix ∷ more) item = None

-- ---- Names: the key is the name; the body has the addresses with their expiries

unfoldable pub name_item : NameRow → Item
name_item row = record { kind = name_kind; key = row.name; body = list_body expiring row.addrs }

-- the name of an item: a host name in lower case, with 1 to 64 addresses in their order, each once, and expiries that
-- are for ever or below 2^40
unfoldable pub name_in : Item → Option NameRow
name_in item =
    if item.kind == name_kind then (do
      addrs ← list_body_in expiring_in item.body
      if_sound_name (name_row item.key addrs)) else None
  where
    if_sound_name : NameRow → Option NameRow
    if_sound_name row = if is_sound_name row then Some row else None

-- the names with that of the item, where it is one that may stand behind them
unfoldable pub with_name_item : List NameRow → Item → Option (List NameRow)
with_name_item names item = do
  row ← name_in item
  if comes_last name_of row names && nat_lt (length names) most.names then Some (names ++ row ∷ []) else None

-- ---- The stamp, the moment of the last change: one item with the empty key; the body has the moment in eight octets

unfoldable pub stamp_item : ℕ → Item
stamp_item moment = record { kind = stamp_kind; key = []; body = version ++ number 8 moment }

unfoldable pub stamp_items : Option ℕ → List Item
stamp_items None = []
stamp_items (Some moment) = stamp_item moment ∷ []

unfoldable pub moment_of_body : List ℕ → Option ℕ
moment_of_body body = do
  one ← version_in body
  moment ← number_in 8 one.1
  ended ← end_in moment.1
  Some moment.0

unfoldable pub stamp_in : Item → Option ℕ
stamp_in item =
    if item.kind == stamp_kind && length item.key == 0 then (do
      moment ← moment_of_body item.body
      if_moment moment) else None
  where
    if_moment : ℕ → Option ℕ
    if_moment moment = if nat_le moment 253402300799 then Some moment else None

-- the stamp with that of the item, where none is taken yet
unfoldable pub with_stamp_item : Option ℕ → Item → Option ℕ
with_stamp_item None item = stamp_in item
with_stamp_item (Some moment) item = None

-- ---- What has a spelling

-- the local networks have one item, and fit its fields
pub record IsKeptLocals (locals : List Prefix) : Type 0 where
  pub sound : IsTrue (are_locals locals)
  pub fits : FitsLocals locals

-- the item is that of the class, of the local networks or of the name
pub record IsClassItem (item : Item) (row : ClassRow) : Type 0 where
  pub same : item ≡ class_item row
  pub kept : IsKeptClass row

pub record IsLocalsItem (item : Item) (locals : List Prefix) : Type 0 where
  pub same : item ≡ locals_item locals
  pub kept : IsKeptLocals locals

pub record IsNameItem (item : Item) (row : NameRow) : Type 0 where
  pub same : item ≡ name_item row
  pub kept : IsKeptName row

-- a put of a class, of the local networks or of a name, whose kinds stand between those of files and of the stamp
abbrev pub IsBindPut : Put → Type 0
IsBindPut put = (file_kind < kind_of_put put) × (kind_of_put put < stamp_kind)

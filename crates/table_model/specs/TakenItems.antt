-- Reading items one after the other, in the keeper's order: that of kinds, and then of keys.
use Rattle.std.specs.Prelude.{ℕ, Bool, ◌&&◌, ◌==◌, nat_lt, is_none, List, [], ◌∷◌, ◌++◌, length, Option, Some, None, option_map, if◌then◌else◌, map}
use Rattle.mud_base.specs.declared.prefix.Prefix.{Prefix}
use Rattle.mud_world.specs.declared.item.Item.{Item}
use Rattle.item_codec.specs.Kinds.{thing_kind, file_kind, class_kind, locals_kind, name_kind, stamp_kind}
use Rattle.item_codec.specs.Records.{◌>>=◌}
use Rattle.table_model.specs.declared.thing.Thing.{Thing}
use Rattle.table_model.specs.declared.bind.ClassRow.{ClassRow}
use Rattle.table_model.specs.declared.bind.NameRow.{NameRow}
use Rattle.table_model.specs.Binds.{Binds}
use Rattle.table_model.specs.BindItems.{with_class_item, locals_items, with_locals_item, with_name_item, with_stamp_item, class_item, name_item}
use Rattle.table_model.specs.ThingItems.{with_thing_item}

-- what was taken of so many items, one after the other, where each of them can be taken behind those before it
abbrev pub all_taken : {T : Type 0} → (T → Item → Option T) → T → List Item → Option T
all_taken take before [] = Some before
all_taken take before (item ∷ items) = take before item >>= λ after. all_taken take after items

unfoldable pub no_binds : Binds
no_binds = record { classes = []; locals = []; names = [] }

unfoldable pub bind_items : Binds → List Item
bind_items binds = map class_item binds.classes ++ (locals_items binds.locals ++ map name_item binds.names)

abbrev pub is_empty : {A : Type 0} → List A → Bool
is_empty xs = length xs == 0

unfoldable pub set_classes : Binds → List ClassRow → Binds
set_classes binds classes = record binds { classes = classes }

unfoldable pub set_locals : Binds → List Prefix → Binds
set_locals binds locals = record binds { locals = locals }

unfoldable pub set_names : Binds → List NameRow → Binds
set_names binds names = record binds { names = names }

-- the lists with that of the item, where it is one that may stand behind their items: a class stands before the local
-- networks and the names, the local networks stand before the names, and no other kind is one of these
unfoldable pub with_bind_item : Binds → Item → Option Binds
with_bind_item binds item =
    if item.kind == class_kind && is_empty binds.locals && is_empty binds.names then option_map (set_classes binds) (with_class_item binds.classes item)
    else (if item.kind == locals_kind && is_empty binds.names then option_map (set_locals binds) (with_locals_item binds.locals item)
    else (if item.kind == name_kind then option_map (set_names binds) (with_name_item binds.names item)
    else None))

-- ---- Of every kind

-- what was taken of items of every kind: the Things, the files, of which these definitions know no more than
-- how one is taken, the classes, local networks and names, and the stamp
pub record Kept (F : Type 0) : Type 0 where
  pub things : List Thing
  pub files : F
  pub binds : Binds
  pub stamp : Option ℕ

unfoldable pub have_none : Binds → Bool
have_none binds = is_empty binds.classes && is_empty binds.locals && is_empty binds.names

-- the lists with that of the item, where it is one that may stand behind their items: an item stands behind those of its
-- own kind that it may follow, and before those of every later kind; other kinds than these six are no records
unfoldable pub with_item : {F : Type 0} → (F → Item → Option F) → (F → Bool) → Kept F → Item → Option (Kept F)
with_item with_file no_file kept item =
    if item.kind == thing_kind && no_file kept.files && have_none kept.binds && is_none kept.stamp then option_map (λ things. record kept { things = things }) (with_thing_item kept.things item)
    else (if item.kind == file_kind && have_none kept.binds && is_none kept.stamp then option_map (λ files. record kept { files = files }) (with_file kept.files item)
    else (if nat_lt file_kind item.kind && nat_lt item.kind stamp_kind && is_none kept.stamp then option_map (λ binds. record kept { binds = binds }) (with_bind_item kept.binds item)
    else (if item.kind == stamp_kind then option_map (λ moment. record kept { stamp = Some moment }) (with_stamp_item kept.stamp item)
    else None)))

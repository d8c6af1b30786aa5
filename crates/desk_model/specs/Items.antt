-- The items in which a desk is kept, and the desk that items are.
use Rattle.std.specs.Prelude.{◌≡◌, ℕ, IsTrue, List, [], ◌∷◌, ◌++◌, map, Some, None, Result, Ok, Err}
use Rattle.mud_world.specs.declared.item.Item.{Item}
use Rattle.mud_world.specs.declared.item.Put.{Put}
use Rattle.mud_world.specs.Items.{put_all, set_put, is_batch}
use Rattle.table_model.specs.ThingItems.{thing_items, in_second}
use Rattle.table_model.specs.BindItems.{stamp_item, stamp_items}
use Rattle.table_model.specs.TakenItems.{Kept, no_binds, bind_items, is_empty, with_item}
use Rattle.table_model.specs.Tables.{binds_of}
use Rattle.usage_tables.specs.declared.cached_file.CachedFile.{CachedFile}
use Rattle.usage_tables.specs.FileItems.{file_items, with_file_item}
use Rattle.desk_model.specs.DeskTables.{DeskTables}

-- The items of a desk, by kind and key: Things, files, classes, local networks, names, and the stamp. Where there are no local
-- networks, or no stamp, there is no item of them.
unfoldable pub items_of : DeskTables → List Item
items_of desk = thing_items desk.tables.things ++ (file_items desk.files ++ (bind_items (binds_of desk.tables) ++ stamp_items desk.stamp))

-- ---- The desk of items

-- what was taken of items
abbrev pub KeptDesk : Type 0
KeptDesk = Kept (List CachedFile)

unfoldable pub none_kept : KeptDesk
none_kept = record { things = []; files = []; binds = no_binds; stamp = None }

unfoldable pub desk_of : KeptDesk → DeskTables
desk_of kept = record { tables = record { things = kept.things; classes = kept.binds.classes; locals = kept.binds.locals; names = kept.binds.names }; files = kept.files; stamp = kept.stamp }

-- the desk that is kept in the items, which stand in the keeper's order, or the first of them that is no record
unfoldable pub tables_in : List Item → Result DeskTables Item
tables_in items = desk_in (kept_in none_kept items)
  where
    -- what is kept of the items behind those taken, or the first of them that is no record
    kept_in : KeptDesk → List Item → Result KeptDesk Item
    kept_in kept [] = Ok kept
    kept_in kept (item ∷ items) = elim (with_item with_file_item is_empty kept item) [ Some next ↦ kept_in next items | None ↦ Err item ]

    desk_in : Result KeptDesk Item → Result DeskTables Item
    desk_in (Ok kept) = Ok (desk_of kept)
    desk_in (Err item) = Err item

-- the item is the first that can't be read: the items before it are those of a desk, and with it they aren't
pub record IsFirstUnread (items : List Item) (item : Item) : Type 0 where
  pub before : List Item
  pub behind : List Item
  pub splits : items ≡ before ++ item ∷ behind
  pub desk : DeskTables
  pub good : tables_in before ≡ Ok desk
  pub bad : tables_in (before ++ item ∷ []) ≡ Err item

-- the items with each Thing of version 1 put anew in version 2, and all others as they are
unfoldable pub in_second_version : List Item → List Item
in_second_version items = map in_second items

-- ---- A change is kept by one batch

-- the puts of a change, and that of the stamp behind them
unfoldable pub with_stamp_put : ℕ → List Put → List Put
with_stamp_put now puts = puts ++ set_put stamp_item now ∷ []

-- the puts are a batch that makes of the items of the desk before those of the desk after
pub record IsKeptBy (before after : DeskTables) (puts : List Put) : Type 0 where
  pub batch : IsTrue (is_batch puts)
  pub reaches : put_all (items_of before) puts ≡ items_of after

-- What was taken of items, as the books hold it.
use Rattle.std.specs.Prelude.{◌≡◌, ℕ, List, Some, Result, Ok, Err}
use Rattle.std.specs.Prelude.{slice_get}
use Rattle.mud_world.specs.declared.item.Item.{Item}
use Rattle.table_model.specs.declared.thing.Thing.{Thing}
use Rattle.table_model.specs.Binds.{Binds}
use Rattle.usage_tables.specs.declared.cached_file.CachedFile.{CachedFile}
use Rattle.desk_model.specs.DeskTables.{DeskTables}
use Rattle.desk_model.specs.Items.{KeptDesk, desk_of, tables_in}
use Rattle.mud_desk.specs.declared.items.loaded.Loaded.{Loaded}

-- the lists of the books, and the stamp
abbrev pub kept_of : Loaded → KeptDesk
kept_of loaded = record { things = loaded.things.things; files = loaded.files.files; binds = loaded.binds.binds; stamp = loaded.stamp }

-- the desk of these lists
abbrev pub loaded_desk : Loaded → DeskTables
loaded_desk loaded = desk_of (kept_of loaded)

-- ---- Reading all items

-- the item at this index is the first that is no record
pub record IsBadAt (items : List Item) (index : ℕ) : Type 0 where
  pub item : Item
  pub there : slice_get items index ≡ Some item
  pub bad : tables_in items ≡ Err item

-- what was taken is the desk that is kept in the items, or the index is that of the first that is no record
abbrev pub IsReadingOf : List Item → Result Loaded ℕ → Type 0
IsReadingOf items (Ok loaded) = tables_in items ≡ Ok (loaded_desk loaded)
IsReadingOf items (Err index) = IsBadAt items index

-- ---- What was taken, with one list more of a book

abbrev pub set_things : KeptDesk → List Thing → KeptDesk
set_things kept things = record kept { things = things }

abbrev pub set_files : KeptDesk → List CachedFile → KeptDesk
set_files kept files = record kept { files = files }

abbrev pub set_binds : KeptDesk → Binds → KeptDesk
set_binds kept binds = record kept { binds = binds }

abbrev pub set_stamp : KeptDesk → ℕ → KeptDesk
set_stamp kept moment = record kept { stamp = Some moment }

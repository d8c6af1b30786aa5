-- What the first opening of a path finds in the file, and what a store leaves for the next one.
use Rattle.std.specs.Prelude.{◌≡◌, ◌⊎◌, false, List, []}
use Rattle.sqlite_disk.specs.declared.Disk.{Ghosts}
use Rattle.sqlite.specs.declared.FileStore.{FileStore}
use Rattle.sqlite.specs.FileStore.{state}
use Rattle.sqlite.specs.Recovery.{Image}
use Rattle.sqlite.specs.Files.{HoldsDatabase}
use Rattle.sqlite.specs.Effect.{Database, IsDatabase}
use Rattle.mud_world.specs.declared.item.Item.{Item}
use Rattle.keep_sqlite.specs.Rows.{held_items, MayHold}

-- The files held this database.
abbrev pub HeldDatabase : Image → Database → Type 0
HeldDatabase image held = IsDatabase held × HoldsDatabase image held.trees

-- The files held a store: a database that holds items or has no table; or there was no database file, or an empty one.
abbrev pub HeldStore : Image → Type 0
HeldStore image = ((held : Database) × HeldDatabase image held × MayHold false held) ⊎ (image.db ≡ [])

-- The list has the items of the database that the files held, and none where it had no table.
abbrev pub ReadsFile : Image → List Item → Type 0
ReadsFile image list = (held : Database) → HeldDatabase image held → list ≡ held_items held

-- Whatever a crash leaves of the store, a first opening of it answers one of these lists.
abbrev pub IsFoundNext : {D : Type 0} {g : Ghosts D} → FileStore D g → (List Item → Type 0) → Type 0
IsFoundNext store Lists = (left : Image) (list : List Item) → (state store).may_leave left → ReadsFile left list → ∥ Lists list ∥₁

-- Whatever a crash leaves of the store, a first opening finds a store in it.
abbrev pub IsHeldNext : {D : Type 0} {g : Ghosts D} → FileStore D g → Type 0
IsHeldNext store = (left : Image) → (state store).may_leave left → ∥ HeldStore left ∥₁

-- What the keeper of a run's store tells: it is one of two, of which each has its own members of the trait.
use Rattle.std.specs.Prelude.{ℕ, List, Bool, false, is_ok}
use Rattle.mud_world.specs.declared.item.Item.{Item}
use Rattle.mud_world.specs.declared.keeper.Keeper.{Ghosts}
use Rattle.keep_sqlite.specs.declared.file_keeper.FileKeeper.{FileKeeper}
use Rattle.mud.specs.declared.store.StoreKeeper.{StoreKeeper}
use Rattle.mud.specs.declared.store.StoreKeeper.TheVariants.{Memory, File}

module _ {M F : Type 0} (memory : Ghosts M) (file : Ghosts F) where
  abbrev pub store_tells : StoreKeeper M F → Type 0
  store_tells (Memory keeper) = memory.tells keeper
  store_tells (File keeper) = file.tells keeper

  abbrev pub store_items : StoreKeeper M F → List Item
  store_items (Memory keeper) = memory.items keeper
  store_items (File keeper) = file.items keeper

  abbrev pub store_opened : StoreKeeper M F → Bool
  store_opened (Memory keeper) = memory.opened keeper
  store_opened (File keeper) = file.opened keeper

  abbrev pub store_left : StoreKeeper M F → List Item → Type 0
  store_left (Memory keeper) list = memory.left keeper list
  store_left (File keeper) list = file.left keeper list

  abbrev pub store_faults : StoreKeeper M F → ℕ
  store_faults (Memory keeper) = memory.faults keeper
  store_faults (File keeper) = file.faults keeper

-- whether it has a file that could be opened
abbrev pub has_file : {M T S : Type 0} → StoreKeeper M (FileKeeper T S) → Bool
has_file (Memory keeper) = false
has_file (File keeper) = is_ok keeper.keeper

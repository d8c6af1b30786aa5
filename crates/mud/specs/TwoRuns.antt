-- A run over a file, as the next one over it has to know it.
use Rattle.std.specs.Prelude.{◌≡◌, ◌⊎◌, List, Result}
use Rattle.sqlite_disk.specs.declared.Disk as disk
use Rattle.sqlite.specs.declared.FileStore.{FileStore}
use Rattle.sqlite.specs.FileStore.{state}
use Rattle.sqlite.specs.Files.{over_files}
use Rattle.sqlite.specs.Recovery.{Image}
use Rattle.mud_world.specs.declared.item.Item.{Item}
use Rattle.mud_world.specs.declared.keeper.Keeper.{Ghosts}
use Rattle.mud_world.specs.Kept.{Tells, kept_items}
use Rattle.keep_sqlite.specs.declared.file_keeper.FileKeeper.{FileKeeper}
use Rattle.keep_sqlite.specs.declared.refusal.Refusal.{Refusal}
use Rattle.keep_sqlite.specs.FileKeepers.{opened_items, IsOpenedOver, OpenedIsClean, OpenedTells}
use Rattle.keep_sqlite.specs.Reopened.{HeldStore, IsFoundNext, IsHeldNext}
use Rattle.keep_sqlite.specs.Telling.{KeeperView}
use Rattle.mud_cli.specs.NextRun.{IsKeptBehind, LeavesBehind}
use Rattle.mud.specs.declared.store.StoreKeeper.{StoreKeeper}
use Rattle.mud.specs.declared.store.StoreKeeper.TheVariants.{File}

module _ {M D S : Type 0} {g : disk.Ghosts D} (members : Ghosts (StoreKeeper M (FileKeeper (FileStore D g) S))) where
  -- The run began with a keeper that told the items of a file, which held this, and left behind what it has to: as `run_file` says.
  pub record RanOver (image : Image) (returned : StoreKeeper M (FileKeeper (FileStore D g) S)) : Type 0 where
    pub first : FileKeeper (FileStore D g) S
    pub opened : IsOpenedOver image first.keeper
    pub told : OpenedTells over_files first.keeper
    pub left : LeavesBehind members (File first) returned

  -- What a run leaves of the store of a file, which held this when it began: a first opening finds what may be left and, where the run told in
  -- the end, the items that it kept; and it finds a store where the file held one.
  pub record LeavesNext (image : Image) (returned : StoreKeeper M (FileKeeper (FileStore D g) S)) (store : FileStore D g) : Type 0 where
    pub found : IsFoundNext store (members.left returned)
    pub told : Tells members returned → IsFoundNext store (λ list. list ≡ kept_items members returned)
    pub held : HeldStore image → IsHeldNext store

  -- the items that the run began with, or what it kept
  abbrev pub IsFoundBehind : List Item → StoreKeeper M (FileKeeper (FileStore D g) S) → List Item → Type 0
  IsFoundBehind before returned list = (list ≡ before) ⊎ IsKeptBehind members before returned list

-- the items that it began with
abbrev pub first_items : {M D S : Type 0} {g : disk.Ghosts D} {members : Ghosts (StoreKeeper M (FileKeeper (FileStore D g) S))} {image : Image}
    {returned : StoreKeeper M (FileKeeper (FileStore D g) S)} → RanOver members image returned → List Item
first_items run = opened_items over_files run.first.keeper

module _ {D E : Type 0} {g : disk.Ghosts D} {h : disk.Ghosts E} where
  -- The keeper was opened over what a crash left of the store, or what was there without one, and its disk gave back what was written.
  pub record IsNextOver (store : FileStore D g) (next : Result (KeeperView (FileStore E h)) Refusal) : Type 0 where
    pub left : Image
    pub may : (state store).may_leave left
    pub opened : IsOpenedOver left next
    pub clean : OpenedIsClean over_files next

-- It tells its items, which are such a list.
abbrev pub TellsNext : {E : Type 0} {h : disk.Ghosts E} → Result (KeeperView (FileStore E h)) Refusal → (List Item → Type 0) → Type 0
TellsNext next Lists = OpenedTells over_files next × Lists (opened_items over_files next)

-- What a keeper tells whose file was opened, or couldn't be.
use Rattle.std.specs.Prelude.{◌≡◌, ◌⊎◌, Bool, false, List, [], Result, Ok, Err, IfOk}
use Rattle.sqlite_disk.specs.declared.Disk as disk
use Rattle.sqlite_disk.specs.declared.Files.{Files}
use Rattle.sqlite_trees.specs.declared.store.Store.{Ghosts}
use Rattle.sqlite.specs.declared.error.Error.{Error}
use Rattle.sqlite.specs.declared.error.Error.TheVariants.{SqliteFailure}
use Rattle.sqlite.specs.declared.error.ErrorCode.TheVariants.{CannotOpen, DatabaseBusy, OutOfMemory}
use Rattle.sqlite.specs.declared.file.Leftover.{Leftover}
use Rattle.sqlite.specs.declared.FileStore.{FileStore}
use Rattle.sqlite.specs.Effect.{Database}
use Rattle.sqlite.specs.FileStore.{view}
use Rattle.sqlite.specs.Files.{file_state, image_of, over_files, FailsToOpenFiles, IsBlankAs, IsCleanLeft, IsOpened, LeavesFiles}
use Rattle.sqlite.specs.Held.{Held, state, IsNew}
use Rattle.sqlite.specs.Recovery.{Image}
use Rattle.sqlite.specs.Start.{FindsIn}
use Rattle.sqlite.specs.State.{HasCleanDisk}
use Rattle.mud_world.specs.declared.item.Item.{Item}
use Rattle.mud_world.specs.declared.item.Put.{Put}
use Rattle.keep_sqlite.specs.declared.refusal.Refusal.{Refusal}
use Rattle.keep_sqlite.specs.Refusals.{refusal_of}
use Rattle.keep_sqlite.specs.Refused.{IsRefused, GivesNoItems}
use Rattle.keep_sqlite.specs.Reopened.{HeldDatabase, HeldStore, ReadsFile}
use Rattle.keep_sqlite.specs.Rows.{MayMake}
use Rattle.keep_sqlite.specs.Telling.{database, told, IsUp, KeeperView, MayBeLeft, Tells}

-- whether an `open` has answered Ok
abbrev pub is_read : {S : Type 0} → Result (KeeperView S) Refusal → Bool
is_read (Ok keeper) = keeper.has_opened
is_read (Err refusal) = false

-- The keeper is over the connection, and its items aren't read yet.
abbrev pub IsAdopted : {S : Type 0} → Result (Held S) Refusal → Result (KeeperView S) Refusal → Type 0
IsAdopted (Ok connection) (Ok keeper) = (keeper.connection ≡ connection) × (keeper.has_opened ≡ false)
IsAdopted (Ok connection) (Err refusal) = ⊥
IsAdopted (Err refusal) (Ok keeper) = ⊥
IsAdopted (Err refusal) (Err other) = other ≡ refusal

module _ {S : Type 0} (g : Ghosts S) where
  -- A keeper whose file couldn't be opened tells nothing,
  abbrev pub OpenedTells : Result (KeeperView S) Refusal → Type 0
  OpenedTells (Ok keeper) = Tells g keeper
  OpenedTells (Err refusal) = ⊥

  -- and has no items.
  abbrev pub opened_items : Result (KeeperView S) Refusal → List Item
  opened_items (Ok keeper) = told g keeper
  opened_items (Err refusal) = []

  -- A crash at this moment may leave a database that tells these items; of a file that couldn't be opened nothing is known.
  abbrev pub OpenedMayLeave : Result (KeeperView S) Refusal → List Item → Type 0
  OpenedMayLeave (Ok keeper) list = MayBeLeft g keeper list
  OpenedMayLeave (Err refusal) list = Unit {0}

  -- Where a crash at this moment leaves anything, the keeper tells its items, and they are what it leaves.
  abbrev pub OpenedRests : Result (KeeperView S) Refusal → Type 0
  OpenedRests keeper = (list : List Item) → OpenedMayLeave keeper list → OpenedTells keeper × (list ≡ opened_items keeper)

  -- While the keeper tells its items, a crash leaves these and nothing else.
  abbrev pub OpenedLeavesTold : Result (KeeperView S) Refusal → Type 0
  OpenedLeavesTold keeper = OpenedTells keeper → (list : List Item) → OpenedMayLeave keeper list → list ≡ opened_items keeper

  -- It has a connection, whose disk has given back what was written,
  abbrev pub OpenedIsClean : Result (KeeperView S) Refusal → Type 0
  OpenedIsClean (Ok keeper) = HasCleanDisk (state g keeper.connection)
  OpenedIsClean (Err refusal) = ⊥

  -- and sees this database.
  abbrev pub OpenedSees : Result (KeeperView S) Refusal → Database → Type 0
  OpenedSees (Ok keeper) db = database g keeper ≡ db
  OpenedSees (Err refusal) db = ⊥

  -- What an `open` may do to the database.
  abbrev pub OpenedMayMake : Result (KeeperView S) Refusal → Result (KeeperView S) Refusal → Type 0
  OpenedMayMake (Ok old) (Ok new) = IsUp g new.connection → MayMake (database g old) (database g new)
  OpenedMayMake (Ok old) (Err refusal) = ⊥
  OpenedMayMake (Err refusal) (Ok new) = ⊥
  OpenedMayMake (Err refusal) (Err again) = again ≡ refusal

  -- Why items aren't read: the file couldn't be opened, for this cause; or why the keeper over its connection didn't read them, where the
  -- disk gave back what was written.
  abbrev pub OpenedUnread : Result (KeeperView S) Refusal → Result (KeeperView S) Refusal → Refusal → Type 0
  OpenedUnread (Ok old) (Ok new) refusal = HasCleanDisk (state g new.connection) → GivesNoItems g old new refusal
  OpenedUnread (Ok old) (Err again) refusal = ⊥
  OpenedUnread (Err failed) (Ok new) refusal = ⊥
  OpenedUnread (Err failed) (Err again) refusal = (again ≡ failed) × (refusal ≡ failed)

  -- Why a batch isn't kept, in the same way.
  abbrev pub OpenedRefuses : Result (KeeperView S) Refusal → Result (KeeperView S) Refusal → List Put → Refusal → Type 0
  OpenedRefuses (Ok old) (Ok new) batch refusal = HasCleanDisk (state g new.connection) → IsRefused g old.connection batch refusal
  OpenedRefuses (Ok old) (Err again) batch refusal = ⊥
  OpenedRefuses (Err failed) (Ok new) batch refusal = ⊥
  OpenedRefuses (Err failed) (Err again) batch refusal = (again ≡ failed) × (refusal ≡ failed)

-- what the system's refusal to open the files is answered as; it has no cause in a clause
abbrev pub IsSystemError : Error → Type 0
IsSystemError error = (error ≡ SqliteFailure CannotOpen) ⊎ ((error ≡ SqliteFailure OutOfMemory) ⊎ (error ≡ SqliteFailure DatabaseBusy))

module _ {D : Type 0} (g : disk.Ghosts D) (image : Image) where
  -- Files that held this were opened, and with that the database failed so.
  pub record FailsOnFiles (error : Error) : Type 0 where
    pub files : Files D
    pub left : Leftover D g
    pub held : image_of g files ≡ image
    pub fails : IsCleanLeft left → FailsToOpenFiles files left error × LeavesFiles files left

  -- The system refused to open the files, or the database failed on them; the refusal is what the error is told as.
  pub record FailsToConnect (refusal : Refusal) : Type 0 where
    pub error : Error
    pub told : refusal ≡ refusal_of error
    pub fails : IsSystemError error ⊎ FailsOnFiles error

module _ {D : Type 0} {g : disk.Ghosts D} (image : Image) where
  -- Where there is no connection, that is why,
  abbrev pub UnconnectedFor : Result (Held (FileStore D g)) Refusal → Type 0
  UnconnectedFor (Ok connection) = Unit {0}
  UnconnectedFor (Err refusal) = FailsToConnect g image refusal

  -- and where there is no keeper.
  abbrev pub UnopenedFor : Result (KeeperView (FileStore D g)) Refusal → Type 0
  UnopenedFor (Ok keeper) = Unit {0}
  UnopenedFor (Err refusal) = FailsToConnect g image refusal

  -- A connection that was opened just now, over files that held this.
  pub record IsJustOpened (connection : Held (FileStore D g)) : Type 0 where
    -- No statement was done on it, and none has a limit of its steps.
    pub fresh : IsNew connection
    -- It is open outside a transaction, and sees a database, which is the one that was committed.
    pub opened : HasCleanDisk (file_state connection) → IsOpened connection
    -- That is what the files held; where they held nothing, its trees are empty.
    pub finds : HasCleanDisk (file_state connection) → FindsIn image (file_state connection)
    -- The pages of a file that is made now have no sums, which other programs would spoil.
    pub plain : HasCleanDisk (file_state connection) → IsBlankAs false image → (view connection.store).has_sums ≡ false
    -- Each later read is tested against a digest.
    pub guarded : HasCleanDisk (file_state connection) → (file_state connection).IsShielded

  -- What a keeper is whose file was opened just now, and held this.
  pub record IsOpenedOver (keeper : Result (KeeperView (FileStore D g)) Refusal) : Type 0 where
    -- Where it tells its items, they are those that the file held, and a crash leaves just these.
    pub found : OpenedTells over_files keeper → ReadsFile image (opened_items over_files keeper)
    pub rests : OpenedLeavesTold over_files keeper
    -- It tells them where the file held a store, and its disk gave back what was written.
    pub tells : HeldStore image → OpenedIsClean over_files keeper → OpenedTells over_files keeper
    -- Whatever database the file held, it is then the one that the keeper sees.
    pub sees : (held : Database) → HeldDatabase image held → OpenedIsClean over_files keeper → OpenedSees over_files keeper held
    -- Where there was no database file, or an empty one, there are no items.
    pub blank : image.db ≡ [] → OpenedIsClean over_files keeper → opened_items over_files keeper ≡ []
    -- Nothing was done with its connection since.
    pub connection : IfOk keeper (λ k. IsJustOpened k.connection)
    -- Where the file couldn't be opened, the system refused it, or the database failed on what it held.
    pub unopened : UnopenedFor keeper
    -- No `open` has answered Ok yet.
    pub unread : is_read keeper ≡ false

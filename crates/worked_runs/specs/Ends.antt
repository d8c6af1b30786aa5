-- How a run over the forms in memory ends.
use Rattle.std.specs.Prelude.{◌≡◌, ℕ, ◌⊎◌, None, List, [], ◌∷◌}
use Rattle.mud_world.specs.declared.clock.Clock as clock
use Rattle.mud_world.specs.declared.door.Door as door
use Rattle.mud_world.specs.declared.keeper.Keeper as keeper
use Rattle.mud_world.specs.declared.spool.Spool as spool
use Rattle.mud_world.specs.declared.item.Item.{Item}
use Rattle.mud_world.specs.declared.memory_clock.MemoryClock.{MemoryClock}
use Rattle.mud_world.specs.declared.memory_door.MemoryDoor.{MemoryDoor}
use Rattle.mud_world.specs.declared.memory_keeper.MemoryKeeper.{MemoryKeeper}
use Rattle.mud_world.specs.declared.memory_spool.MemorySpool.{MemorySpool}
use Rattle.mud_world.specs.Causes.{Rose}
use Rattle.mud_world.specs.Door.{outputs}
use Rattle.mud_world.specs.MemoryClock.{moments_left}
use Rattle.mud_world.specs.MemoryDoor.{memory_state}
use Rattle.mud_world.specs.MemoryConnections.{first_state}
use Rattle.mud_world.specs.MemoryDoor as new_door
use Rattle.mud_world.specs.MemoryKeeper as new_keeper
use Rattle.mud_world.specs.MemorySpool as new_spool
use Rattle.desk_model.specs.DeskTables.{DeskTables, empty_desk}
use Rattle.desk_model.specs.Items.{items_of}
use Rattle.desk_model.specs.Sessions.{opened}
use Rattle.run_drills.specs.Commands.{drill_commands}
use Rattle.run_drills.specs.Drill.{drill_text, session_after}
use Rattle.desk_model.specs.Keeping.{KeepsDesk}
use Rattle.mud_cli.specs.Runs.{AsTold, Does, World, world}
use Rattle.run_common.specs.Status.{Is}
use Rattle.run_common.specs.declared.status.Status.TheVariants.{Done, Unlisted, DoorFailed, NoMemory, BadItem, KeeperFailed}
use Rattle.run_words.specs.Words.{command_in, words_of}
use Rattle.worked_runs.specs.declared.ended.Ended.{Ended}
use Rattle.worked_runs.specs.declared.ended.Given.{Given}

-- One read or one write of the door failed.
abbrev pub HasFailed : Ended → Type 0
HasFailed ended = (ended.door.read_count ≡ 1) ⊎ (ended.door.write_count ≡ 1)

-- The status is this one, and this text was written to the connection. Else memory was wanted, or a call of the door failed.
abbrev pub EndsWith : List ℕ → ℕ → Ended → Type 0
EndsWith text status ended =
    Is NoMemory ended.status
    ⊎ ((Is DoorFailed ended.status × HasFailed ended)
    ⊎ ((ended.status ≡ status) × (outputs (memory_state ended.door) ≡ text ∷ [])))

-- The same of a run over a store, which keeps this desk then; or the keeper failed. A call that fails would have been this.
abbrev pub EndsBy : Type 0 → DeskTables → List ℕ → ℕ → Ended → Type 0
EndsBy failed desk text status ended =
    Is NoMemory ended.status
    ⊎ ((Is DoorFailed ended.status × failed)
    ⊎ ((Is KeeperFailed ended.status × Rose 0 ended.keeper.count)
    ⊎ ((ended.status ≡ status) × ((outputs (memory_state ended.door) ≡ text ∷ []) × KeepsDesk ended.keeper.items.rows desk))))

-- of a run that reads or writes the door alone
abbrev pub EndsOver : DeskTables → List ℕ → ℕ → Ended → Type 0
EndsOver desk text status ended = EndsBy (HasFailed ended) desk text status ended

-- of one that writes, and reads a folder
abbrev pub ImportsOver : DeskTables → List ℕ → ℕ → Ended → Type 0
ImportsOver desk text status ended = EndsBy ((ended.door.write_count ≡ 1) ⊎ (ended.spool.count ≡ 1)) desk text status ended

-- of a drill of so many packets over a store that held nothing: its text, and the items that its commands lead to
abbrev pub DrillsOver : ℕ → Ended → Type 0
DrillsOver packets ended =
    Is NoMemory ended.status
    ⊎ ((Is DoorFailed ended.status × (ended.door.write_count ≡ 1))
    ⊎ ((Is KeeperFailed ended.status × Rose 0 ended.keeper.count)
    ⊎ (Is Done ended.status × ((outputs (memory_state ended.door) ≡ drill_text packets ∷ [])
    × (ended.keeper.items.rows ≡ items_of (session_after (opened empty_desk) (drill_commands packets)).desk)))))

-- The same of a run over a store with an item that is no record: it is named, and the items stay.
abbrev pub EndsAtItem : List Item → List ℕ → Ended → Type 0
EndsAtItem items text ended =
    Is NoMemory ended.status
    ⊎ ((Is DoorFailed ended.status × HasFailed ended)
    ⊎ ((Is KeeperFailed ended.status × Rose 0 ended.keeper.count)
    ⊎ (Is BadItem ended.status × ((outputs (memory_state ended.door) ≡ text ∷ []) × (ended.keeper.items.rows ≡ items)))))

-- The words are no listed line. No octet was read or written, no call failed, and the items stay.
pub record IsUntouched (pieces : List (List ℕ)) (ended : Ended) : Type 0 where
  pub status_is : Is Unlisted ended.status
  pub door_is : memory_state ended.door ≡ first_state (pieces ∷ [])
  pub reads : ended.door.read_count ≡ 0
  pub writes : ended.door.write_count ≡ 0
  pub items : ended.keeper.items.rows ≡ []
  pub faults : ended.keeper.count ≡ 0

-- A run of these words that reads these pieces, of an empty folder and a store of these items.
pub record ReadsOver (items : List Item) (words pieces : List (List ℕ)) (given : Given) : Type 0 where
  pub words_are : words_of given.words.items ≡ words
  pub pieces_are : given.pieces ≡ pieces
  pub no_files : given.files ≡ []
  pub items_are : given.items ≡ items

module _ (members : keeper.Ghosts MemoryKeeper) (doors : door.Ghosts MemoryDoor) (spools : spool.Ghosts MemorySpool) (clocks : clock.Ghosts MemoryClock) where
  -- The program was run over a door, a keeper, a spool and a clock of what it was given, and does what is promised of its command.
  pub record Ran (given : Given) (ended : Ended) : Type 0 where
    pub kept : MemoryKeeper
    pub before : World MemoryDoor MemorySpool MemoryClock
    pub clock_after : MemoryClock
    pub keeper_is : new_keeper.IsNew given.items kept
    pub door_is : new_door.IsNew (given.pieces ∷ []) 4096 before.door
    pub spool_is : new_spool.IsNew given.files before.spool
    pub clock_is : moments_left before.clock ≡ given.moment ∷ []
    pub unlisted : command_in (words_of given.words.items) ≡ None → Is Unlisted ended.status
    pub untouched : Is Unlisted ended.status → (ended.keeper ≡ kept) × (world ended.door ended.spool clock_after ≡ before)
    pub does : AsTold (Does members doors spools clocks kept ended.keeper before (world ended.door ended.spool clock_after) ended.status) (words_of given.words.items)

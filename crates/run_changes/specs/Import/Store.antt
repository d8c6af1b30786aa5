-- What a run of `import` over a store and a folder does.
use Rattle.std.specs.Prelude.{◌≡◌, ℕ, ◌⊎◌, [], ◌∷◌}
use Rattle.mud_world.specs.declared.keeper.Keeper.{Ghosts}
use Rattle.mud_world.specs.Kept.{faults_of, Tells, kept_items}
use Rattle.mud_world.specs.Files.{names_of}
use Rattle.run_common.specs.Ends.{AreSteady, IsStoppedByDoorOrSpool}
use Rattle.mud_world.specs.View.{OutsideView}
use Rattle.desk_model.specs.DeskTables.{DeskTables, IsSound}
use Rattle.desk_model.specs.Keeping.{KeepsDesk}
use Rattle.desk_model.specs.Kept.{IsKept}
use Rattle.desk_model.specs.Sessions.{Session, opened}
use Rattle.run_desk.specs.Honest.{RunsHonestly}
use Rattle.run_desk.specs.Store.{IsRefused, IsUnopened, KeepsTables}
use Rattle.run_changes.specs.Import.Order.{in_order}
use Rattle.run_changes.specs.Import.Runs.{Scene, ImportsPart, ImportsAll}
use Rattle.run_common.specs.Status.{IsNot, IsOneOf, each_status}
use Rattle.run_common.specs.declared.status.Status.TheVariants.{Done, Refused, DoorFailed, NoMemory, BadItem, KeeperFailed}

-- ---- A desk that is opened

-- the scene of a session, where the keeper has failed so often
abbrev pub scene_in : Session → OutsideView → ℕ → Scene
scene_in session view faults = record { standing = record { session = session; moments = view.moments }; door = view.door.state; faults = faults }

-- The names of the folder were gone through in the order of their octets, in a session that began with these tables and ended
-- so: all of them with 0, 3 and 7, and with 4 and 5 some of them, from the first on.
pub record ImportsFolder (tables : DeskTables) (session : Session) (faults faults_after : ℕ) (old new : OutsideView) (status : ℕ) : Type 0 where
  pub statuses : IsOneOf (Done ∷ Refused ∷ DoorFailed ∷ NoMemory ∷ KeeperFailed ∷ []) status
  pub all : IsOneOf (Done ∷ Refused ∷ KeeperFailed ∷ []) status → ImportsAll old.spool.files (in_order (names_of old.spool.files)) (scene_in (opened tables) old faults) (scene_in session new faults_after) status
  pub part : IsOneOf (DoorFailed ∷ NoMemory ∷ []) status → ImportsPart old.spool.files (in_order (names_of old.spool.files)) (scene_in (opened tables) old faults) (scene_in session new faults_after)

module _ {K : Type 0} (members : Ghosts K) where
  -- A desk is opened with the tables that were kept, and the tables of its session in the end are kept: also where a failure shut the keeper.
  pub record OpensAndImports (keeper returned : K) (old new : OutsideView) (status : ℕ) : Type 0 where
    pub tables : DeskTables
    pub session : Session
    pub sound : IsSound tables
    pub were_kept : Tells members keeper → Tells members returned → KeepsDesk (kept_items members keeper) tables
    pub imports : ImportsFolder tables session (faults_of members keeper) (faults_of members returned) old new status
    pub are_kept : IsKept members returned session.desk

  -- No desk is opened: the tables stay, the folder isn't listed, and the clock isn't asked. The keeper fails with 7 alone.
  pub record ImportsNone (keeper returned : K) (old new : OutsideView) (status : ℕ) : Type 0 where
    pub refused : IsRefused members keeper returned old.door.state new.door.state status
    pub same_spool : new.spool ≡ old.spool
    pub same_moments : new.moments ≡ old.moments
    pub keeper_steady : IsNot KeeperFailed status → faults_of members returned ≡ faults_of members keeper

  -- A run of `import`. `tells` says that the door, the spool and the clock tell.
  pub record ImportsStore (tells : Type 0) (keeper returned : K) (old new : OutsideView) (status : ℕ) : Type 0 where
    -- A write or a call of the spool that fails ends the run. Where it ends with 0, 3 or 6, the keeper didn't fail.
    pub honest : RunsHonestly members each_status (IsStoppedByDoorOrSpool old.door new.door old.spool new.spool) (AreSteady old.door new.door old.spool new.spool) keeper returned status
    pub keeper_steady : IsOneOf (Done ∷ Refused ∷ BadItem ∷ []) status → faults_of members returned ≡ faults_of members keeper
    -- A desk is opened and the folder imported into it, or the store is refused.
    pub runs : tells → OpensAndImports keeper returned old new status ⊎ (Tells members returned → ImportsNone keeper returned old new status)
    -- Whatever the status, the items of sound tables are kept, but where no desk was opened.
    pub kept : KeepsTables members returned ⊎ IsUnopened members keeper returned status
    pub same_files : tells → new.spool.files ≡ old.spool.files
    -- The door isn't read, no port is bound, and the connection isn't left.
    pub same_turns : new.door.turns ≡ old.door.turns
    pub same_reads : new.door.reads ≡ old.door.reads

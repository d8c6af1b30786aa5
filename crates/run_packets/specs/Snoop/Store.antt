-- What a run of `snoop` over a store and a capture does.
use Rattle.std.specs.Prelude.{◌≡◌, ◌≢◌, ℕ, ◌⊎◌, [], ◌∷◌}
use Rattle.mud_world.specs.declared.keeper.Keeper.{Ghosts}
use Rattle.mud_world.specs.Kept.{faults_of, Tells, kept_items}
use Rattle.mud_world.specs.Door.{DoorState}
use Rattle.run_common.specs.Ends.{IsSteady, IsStopped}
use Rattle.mud_world.specs.View.{DoorView}
use Rattle.desk_model.specs.DeskTables.{DeskTables, IsSound}
use Rattle.desk_model.specs.Keeping.{KeepsDesk}
use Rattle.desk_model.specs.Kept.{IsKept}
use Rattle.desk_model.specs.Sessions.{Session, opened}
use Rattle.run_desk.specs.Honest.{RunsHonestly}
use Rattle.run_desk.specs.Store.{IsRefused, IsUnopened, KeepsTables}
use Rattle.run_packets.specs.Snoop.Runs.{Scene, scene, SnoopsAll, SnoopsPart, SnoopsTaken}
use Rattle.run_common.specs.Status.{IsNot, IsOneOf, each_status}
use Rattle.run_common.specs.declared.status.Status.TheVariants.{Done, Refused, DoorFailed, NoMemory, BadItem, KeeperFailed}

-- ---- A desk that is opened

-- The packets lead to a scene, in a session whose tables are kept.
pub record LeadsTo (leads : Scene → Type 0) (Keeps : DeskTables → Type 0) (faults : ℕ) (door : DoorState) : Type 0 where
  pub session : Session
  pub are_kept : Keeps session.desk
  pub scene_is : leads (scene session door faults)

-- The packets of the capture were gone through, in the session that began with these tables: all of them with 0, 3 and 7, and with 4
-- and 5 some of them, from the first on. Where a read failed, they are those in the octets that were taken, and all their lines
-- were written.
pub record SnoopsCapture (tables : DeskTables) (Keeps : DeskTables → Type 0) (faults faults_after : ℕ) (old new : DoorView) (status : ℕ) : Type 0 where
  pub statuses : IsOneOf (Done ∷ Refused ∷ DoorFailed ∷ NoMemory ∷ KeeperFailed ∷ []) status
  pub all : IsOneOf (Done ∷ Refused ∷ KeeperFailed ∷ []) status → LeadsTo (λ after. SnoopsAll (scene (opened tables) old.state faults) after status) Keeps faults_after new.state
  pub part : IsOneOf (DoorFailed ∷ NoMemory ∷ []) status → LeadsTo (SnoopsPart (scene (opened tables) old.state faults)) Keeps faults_after new.state
  pub taken : new.reads ≢ old.reads → LeadsTo (SnoopsTaken (scene (opened tables) old.state faults)) Keeps faults_after new.state

module _ {K : Type 0} (members : Ghosts K) where
  -- A desk is opened with the tables that were kept, and what the packets lead to is kept: also where a failure shut the keeper.
  pub record OpensAndSnoops (keeper returned : K) (old new : DoorView) (status : ℕ) : Type 0 where
    pub tables : DeskTables
    pub sound : IsSound tables
    pub were_kept : Tells members keeper → Tells members returned → KeepsDesk (kept_items members keeper) tables
    pub snoops : SnoopsCapture tables (IsKept members returned) (faults_of members keeper) (faults_of members returned) old new status

  -- No desk is opened: the tables stay, and the capture isn't read. The keeper fails with 7 alone.
  pub record SnoopsNone (keeper returned : K) (old new : DoorView) (status : ℕ) : Type 0 where
    pub refused : IsRefused members keeper returned old.state new.state status
    pub same_reads : new.reads ≡ old.reads
    pub keeper_steady : IsNot KeeperFailed status → faults_of members returned ≡ faults_of members keeper

  -- A run of `snoop`. `tells` says that the door tells its connections.
  pub record SnoopsStore (tells : Type 0) (keeper returned : K) (old new : DoorView) (status : ℕ) : Type 0 where
    -- A read or a write that fails ends the run. Where it ends with 0, 3 or 6, the keeper didn't fail.
    pub honest : RunsHonestly members each_status (IsStopped old new) (IsSteady old new) keeper returned status
    pub keeper_steady : IsOneOf (Done ∷ Refused ∷ BadItem ∷ []) status → faults_of members returned ≡ faults_of members keeper
    -- A desk is opened and learns from the capture, or the store is refused.
    pub runs : tells → OpensAndSnoops keeper returned old new status ⊎ (Tells members returned → SnoopsNone keeper returned old new status)
    -- Whatever the status, the items of sound tables are kept, but where no desk was opened.
    pub kept : KeepsTables members returned ⊎ IsUnopened members keeper returned status
    -- No port is bound, and the connection isn't left.
    pub same_turns : new.turns ≡ old.turns

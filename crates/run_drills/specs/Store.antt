-- What a drill over a store does.
use Rattle.std.specs.Prelude.{◌≡◌, ℕ, ◌<◌, ◌⊎◌, ◌&&◌, Bool, false, List, [], ◌++◌, length, codes, is_none, ◌∷◌}
use Rattle.mud_world.specs.declared.keeper.Keeper.{Ghosts}
use Rattle.mud_world.specs.Kept.{faults_of, Tells, kept_items}
use Rattle.mud_world.specs.Causes.{Rose}
use Rattle.mud_world.specs.Door.{put_out}
use Rattle.table_model.specs.TakenItems.{is_empty}
use Rattle.run_common.specs.Ends.{IsStoppedWriting}
use Rattle.run_common.specs.Output.{WroteFirst}
use Rattle.mud_world.specs.View.{DoorView}
use Rattle.desk_model.specs.declared.command.Command.{Command}
use Rattle.desk_model.specs.DeskTables.{DeskTables, IsSound, empty_desk}
use Rattle.desk_model.specs.Keeping.{KeepsDesk, KeepsSame}
use Rattle.desk_model.specs.Sessions.{Session, opened}
use Rattle.desk_model.specs.Kept.{IsKept}
use Rattle.run_desk.specs.Honest.{RunsHonestly}
use Rattle.run_desk.specs.Store.{IsRefused, IsUnopened, KeepsTables}
use Rattle.run_drills.specs.Commands.{drill_commands}
use Rattle.run_drills.specs.Drill.{session_after, lines_in, drill_text}
use Rattle.run_common.specs.Status.{Is, IsNot, IsOneOf, each_status}
use Rattle.run_common.specs.declared.status.Status.TheVariants.{Done, Refused, DoorFailed, NoMemory, KeeperFailed}

-- none of the five lists has a row, and nothing was ever changed
unfoldable pub holds_nothing : DeskTables → Bool
holds_nothing desk =
    is_empty desk.tables.things && is_empty desk.files && is_empty desk.tables.classes && is_empty desk.tables.locals && is_empty desk.tables.names
    && is_none desk.stamp

-- the line of a store that holds something
abbrev pub not_empty_line : List ℕ
not_empty_line = codes "fault NotEmpty\n"

module _ {K : Type 0} (members : Ghosts K) where
  -- A drill over a desk in this session. `tells` says that the door tells its connections.
  pub record DrillsFrom (tells : Type 0) (packets : ℕ) (session : Session) (keeper returned : K) (old new : DoorView) (status : ℕ) : Type 0 where
    pub statuses : IsOneOf (Done ∷ DoorFailed ∷ NoMemory ∷ KeeperFailed ∷ []) status
    -- Some of the commands ran, in order from the first on: all of them with 0 and 4, and with 7 those before the failed one.
    pub ran : List Command
    pub rest : List Command
    pub split : drill_commands packets ≡ ran ++ rest
    pub all : IsOneOf (Done ∷ DoorFailed ∷ []) status → rest ≡ []
    pub more : Is KeeperFailed status → 0 < length rest
    -- The lists behind them are sound, and kept.
    pub sound : IsSound (session_after session ran).desk
    pub kept : IsKept members returned (session_after session ran).desk
    pub told : Tells members returned → Tells members keeper
    -- All lines were written with 0, a first part of them with 4 and 5, and none with 7.
    pub done : tells → Is Done status → new.state ≡ put_out (lines_in packets (session_after session (drill_commands packets))) old.state
    pub part : tells → IsOneOf (DoorFailed ∷ NoMemory ∷ []) status → WroteFirst (lines_in packets (session_after session (drill_commands packets))) old.state new.state
    pub none : Is KeeperFailed status → new.state ≡ old.state
    -- The status is 4 exactly where a write failed in this call, and 7 exactly where the keeper did.
    pub fault : Is DoorFailed status → IsStoppedWriting old new
    pub steady : IsNot DoorFailed status → new.writes ≡ old.writes
    pub keeper_fault : Is KeeperFailed status → Rose (faults_of members keeper) (faults_of members returned)
    pub keeper_steady : IsNot KeeperFailed status → faults_of members returned ≡ faults_of members keeper
    pub same_turns : new.turns ≡ old.turns
    pub same_reads : new.reads ≡ old.reads

  -- A store that held nothing was drilled from empty lists and an empty history on.
  pub record Drills (packets : ℕ) (keeper returned : K) (old new : DoorView) (status : ℕ) : Type 0 where
    pub statuses : IsOneOf (Done ∷ DoorFailed ∷ NoMemory ∷ KeeperFailed ∷ []) status
    pub held : Tells members keeper → Tells members returned → kept_items members keeper ≡ []
    -- Some of the commands ran, in order from the first on, and the lists behind them are kept: all of them with 0 and 4, and with
    -- 7 those before the failed one.
    pub ran : List Command
    pub rest : List Command
    pub split : drill_commands packets ≡ ran ++ rest
    pub all : IsOneOf (Done ∷ DoorFailed ∷ []) status → rest ≡ []
    pub more : Is KeeperFailed status → 0 < length rest
    pub are_kept : IsKept members returned (session_after (opened empty_desk) ran).desk
    -- All lines were written with 0, a first part of them with 4 and 5, and none with 7.
    pub done : Is Done status → new.state ≡ put_out (drill_text packets) old.state
    pub part : IsOneOf (DoorFailed ∷ NoMemory ∷ []) status → WroteFirst (drill_text packets) old.state new.state
    pub none : Is KeeperFailed status → new.state ≡ old.state

  -- The store holds something: no command ran, and its tables stay. The line that says so was written whole with 3, and a first
  -- part of it with 4.
  pub record IsFull (keeper returned : K) (old new : DoorView) (status : ℕ) : Type 0 where
    pub statuses : IsOneOf (Refused ∷ DoorFailed ∷ []) status
    pub full : (tables : DeskTables) × KeepsDesk (kept_items members returned) tables × (holds_nothing tables ≡ false)
    pub same : Tells members keeper → KeepsSame (kept_items members keeper) (kept_items members returned)
    pub done : Is Refused status → new.state ≡ put_out not_empty_line old.state
    pub part : Is DoorFailed status → WroteFirst not_empty_line old.state new.state

  -- A run of `drill`. `tells` says that the door tells its connections.
  pub record DrillsStore (tells : Type 0) (packets : ℕ) (keeper returned : K) (old new : DoorView) (status : ℕ) : Type 0 where
    -- A write that fails ends the run.
    pub honest : RunsHonestly members each_status (IsStoppedWriting old new) (new.writes ≡ old.writes) keeper returned status
    pub keeper_steady : IsNot KeeperFailed status → faults_of members returned ≡ faults_of members keeper
    -- The store held nothing and was drilled, or no command ran: it holds something, or it is refused.
    pub runs : tells → Drills packets keeper returned old new status
        ⊎ (Tells members returned → IsFull keeper returned old new status ⊎ IsRefused members keeper returned old.state new.state status)
    -- Whatever the status, the items of sound tables are kept, but where no desk was opened.
    pub kept : KeepsTables members returned ⊎ IsUnopened members keeper returned status
    -- The door isn't read, no port is bound, and the connection isn't left.
    pub same_turns : new.turns ≡ old.turns
    pub same_reads : new.reads ≡ old.reads

-- What a run of `judge` over a store does.
use Rattle.std.specs.Prelude.{◌≡◌, ◌≢◌, ℕ, ◌⊎◌, List, [], ◌∷◌}
use Rattle.mud_world.specs.declared.keeper.Keeper.{Ghosts}
use Rattle.mud_world.specs.declared.item.Item.{Item}
use Rattle.mud_world.specs.Kept.{faults_of, Tells, kept_items, Rests}
use Rattle.mud_world.specs.Door.{DoorState}
use Rattle.run_captures.specs.Capture.{WritesTaken, output_of_capture}
use Rattle.run_captures.specs.Fold.{LineStep, no_ending}
use Rattle.read_buffer.specs.Packets.{Packet}
use Rattle.run_common.specs.Ends.{IsSteady, IsStopped}
use Rattle.run_common.specs.Output.{Output, WritesOutput, WritesPart}
use Rattle.mud_world.specs.View.{DoorView}
use Rattle.desk_model.specs.DeskTables.{DeskTables, IsSound}
use Rattle.desk_model.specs.Keeping.{KeepsSame, IsFirstBad}
use Rattle.desk_model.specs.Sessions.{opened}
use Rattle.desk_model.specs.Kept.{IsKept}
use Rattle.run_desk.specs.Honest.{RunsHonestly}
use Rattle.run_desk.specs.Judged.{judged_step}
use Rattle.run_desk.specs.Refused.{ByStore, RefusesStore, each_refusal}
use Rattle.run_common.specs.Status.{Is, IsNot, IsOneOf, each_status}
use Rattle.run_common.specs.declared.status.Status.TheVariants.{Done, Refused, DoorFailed, NoMemory, BadItem, KeeperFailed}

-- What a command makes of a capture by the tables of its store: the output for the octets of a connection, and the step from state
-- to state whose lines are written of it where a read failed.
module _ {S : Type 0} (output : DeskTables → List ℕ → Output) (step : S → Packet → LineStep S) (from : DeskTables → S) where
  -- What is written by the tables of a store that keeps them.
  pub record WritesByTables (old new : DoorView) (status : ℕ) (tables : DeskTables) : Type 0 where
    -- With 0 and 3 all of the output was written, with 4 and 5 a first part of it. No item is there to be named with 6.
    pub good : IsNot BadItem status
    pub done : IsOneOf (Done ∷ Refused ∷ []) status → WritesOutput (output tables old.state.left) old.state new.state status
    pub part : IsOneOf (DoorFailed ∷ NoMemory ∷ []) status → WritesPart (output tables old.state.left) old.state new.state
    -- Where a read failed, the lines of the packets in the octets that were read were written.
    pub read : new.reads ≢ old.reads → WritesTaken step (from tables) old.state new.state

-- of `judge`: the lines of the packets, in the session that begins with the tables of the store
abbrev pub judged_output : DeskTables → List ℕ → Output
judged_output tables octets = output_of_capture judged_step no_ending (opened tables) octets

module _ {K : Type 0} (members : Ghosts K) where
  -- the keeper is open, and the items that it tells are those of sound tables
  pub record KeepsTables (keeper : K) : Type 0 where
    pub tables : DeskTables
    pub sound : IsSound tables
    pub kept : IsKept members keeper tables

  -- No desk was opened: the items are as they were, or keep the same desk, and a crash leaves what it could leave before, or such items.
  -- The status is 4 or 6 only where an item is no record.
  pub record IsUnopened (keeper returned : K) (status : ℕ) : Type 0 where
    pub statuses : IsOneOf each_refusal status
    pub bad : IsOneOf (DoorFailed ∷ BadItem ∷ []) status → Tells members returned → (item : Item) × IsFirstBad (kept_items members returned) item
    pub same : Tells members keeper → Tells members returned → KeepsSame (kept_items members keeper) (kept_items members returned)
    pub crash : Tells members keeper → (list : List Item) → members.left returned list → members.left keeper list ⊎ KeepsSame (kept_items members keeper) list

  -- No desk was opened: what is written goes by the items that are kept. They are as they were, or keep the same desk.
  pub record IsRefused (keeper returned : K) (old new : DoorState) (status : ℕ) : Type 0 where
    pub refuses : RefusesStore (kept_items members returned) old new status
    pub same : Tells members keeper → KeepsSame (kept_items members keeper) (kept_items members returned)
    pub same_items : Is BadItem status → Tells members keeper → kept_items members returned ≡ kept_items members keeper

  -- What a run leaves of a store that it only opens. The keeper fails with 7 alone. When the run ends the items are as they were
  -- when it began, or keep the same desk.
  pub record LeavesStore (keeper returned : K) (status : ℕ) : Type 0 where
    pub keeper_steady : IsNot KeeperFailed status → faults_of members returned ≡ faults_of members keeper
    pub same : Tells members keeper → Tells members returned → KeepsSame (kept_items members keeper) (kept_items members returned)
    pub same_items : Is BadItem status → Tells members keeper → Tells members returned → kept_items members returned ≡ kept_items members keeper
    -- Whatever the status, the items of sound tables are kept, but where no desk was opened. A crash then leaves these items.
    pub kept : (KeepsTables returned × Rests members returned) ⊎ IsUnopened keeper returned status

  -- A run over a store that reads a capture. `tells` says that the door tells its connections.
  pub record ReadsByStore {S : Type 0} (output : DeskTables → List ℕ → Output) (step : S → Packet → LineStep S) (from : DeskTables → S) (tells : Type 0) (keeper returned : K) (old new : DoorView) (status : ℕ) : Type 0 where
    -- A read or a write that fails ends the run.
    pub honest : RunsHonestly members each_status (IsStopped old new) (IsSteady old new) keeper returned status
    -- The items that are kept when the run ends say what the output is. Where the store is refused, the capture isn't read.
    pub writes : tells → Tells members returned → ByStore (kept_items members returned) (WritesByTables output step from old new status)
        (RefusesStore (kept_items members returned) old.state new.state status × (new.reads ≡ old.reads))
    pub leaves : LeavesStore keeper returned status
    -- No port is bound, and the connection isn't left.
    pub same_turns : new.turns ≡ old.turns

  -- a run of `judge`
  abbrev pub JudgesStore : Type 0 → K → K → DoorView → DoorView → ℕ → Type 0
  JudgesStore tells keeper returned old new status = ReadsByStore judged_output judged_step opened tells keeper returned old new status

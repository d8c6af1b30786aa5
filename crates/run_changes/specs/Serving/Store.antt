-- What `replay` and `serve` make of their store: what a served desk leaves, and what is done where no connection is served.
use Rattle.std.specs.Prelude.{◌≡◌, ℕ, ◌+◌, List}
use Rattle.mud_world.specs.declared.keeper.Keeper.{Ghosts}
use Rattle.mud_world.specs.Kept.{faults_of, Tells, kept_items}
use Rattle.mud_world.specs.Causes.{Rose}
use Rattle.mud_world.specs.Door.{DoorState, put_out}
use Rattle.run_common.specs.Ends.{IsStoppedWriting}
use Rattle.mud_world.specs.View.{DoorView}
use Rattle.desk_model.specs.DeskTables.{DeskTables, IsSound}
use Rattle.desk_model.specs.Keeping.{KeepsDesk}
use Rattle.desk_model.specs.Kept.{IsKept}
use Rattle.run_desk.specs.Honest.{RunsHonestly}
use Rattle.run_desk.specs.Refused.{RefusesStore, each_refusal}
use Rattle.run_desk.specs.Store.{LeavesStore}
use Rattle.http_requests.specs.Visits.{CountsOf}
use Rattle.console.specs.States.{ConsoleState}

-- No call of the door and none of the keeper failed: no count rose.
pub record NoneFailed (faults faults_after : ℕ) (old new : DoorView) : Type 0 where
  pub turns : ¬ (Rose old.turns new.turns)
  pub reads : ¬ (Rose old.reads new.reads)
  pub writes : ¬ (Rose old.writes new.writes)
  pub keeper : ¬ (Rose faults faults_after)

-- Octets were written, and nothing else was done at the door: no port was bound, and no connection was read or left.
pub record OnlyWrites (old new : DoorState) : Type 0 where
  pub text : List ℕ
  pub wrote : new ≡ put_out text old

module _ {K : Type 0} (members : Ghosts K) where
  -- a desk is opened with the tables that were kept
  pub record OpensWith (tables : DeskTables) (keeper returned : K) : Type 0 where
    pub sound : IsSound tables
    pub were_kept : Tells members keeper → Tells members returned → KeepsDesk (kept_items members keeper) tables

  -- What requests leave, whose state is this: the keeper keeps the tables of the session, the clock will give its moments, and the
  -- keeper's count rose with the requests that were answered with 503 and with no other. At most as many were as it rose: none
  -- where it didn't rise.
  pub record LeavesDesk (clock_tells : Type 0) (faults : ℕ) (returned : K) (moments : List ℕ) (s : ConsoleState) : Type 0 where
    pub kept : IsKept members returned s.session.desk
    pub clock : clock_tells → moments ≡ s.moments
    pub paid : CountsOf s.unavailable faults (faults_of members returned)
    pub risen : faults_of members returned ≡ faults + s.risen
    pub answered : ¬ (Rose faults (faults_of members returned)) → s.unavailable ≡ 0

  -- No connection is served: no desk is opened, or there is no memory to serve with. `tells` says that the door tells its
  -- connections.
  pub record ServesNone (tells : Type 0) (keeper returned : K) (old new : DoorView) (status : ℕ) : Type 0 where
    -- It is 4 only where a write failed in this call, as the last call of the door, and 7 only where the keeper did. Nothing else
    -- failed.
    pub honest : RunsHonestly members each_refusal (IsStoppedWriting old new) (new.writes ≡ old.writes) keeper returned status
    pub same_turns : new.turns ≡ old.turns
    pub same_reads : new.reads ≡ old.reads
    -- What is written goes by the items that are kept.
    pub says : tells → Tells members returned → RefusesStore (kept_items members returned) old.state new.state status
    pub only_writes : tells → OnlyWrites old.state new.state
    pub leaves : LeavesStore members keeper returned status

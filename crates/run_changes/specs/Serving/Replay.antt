-- What a run of `replay` over a store and a connection does.
use Rattle.std.specs.Prelude.{◌≡◌, ℕ, ◌⊎◌, [], ◌∷◌}
use Rattle.mud_world.specs.declared.keeper.Keeper.{Ghosts}
use Rattle.mud_world.specs.Kept.{faults_of}
use Rattle.mud_world.specs.View.{DoorView}
use Rattle.desk_model.specs.DeskTables.{DeskTables}
use Rattle.desk_model.specs.Sessions.{opened}
use Rattle.run_desk.specs.Honest.{RunsHonestly}
use Rattle.http_requests.specs.declared.fault.MomentFrom.TheVariants.{Header}
use Rattle.http_requests.specs.Doors.{ReadsAndWrites}
use Rattle.http_requests.specs.declared.end.ConnectionEnd.{ConnectionEnd}
use Rattle.http_requests.specs.declared.end.ConnectionEnd.TheVariants.{Ended, Closed, Broken, Spent, ReadFailed, WriteFailed}
use Rattle.http_requests.specs.Ends.{IsServed, is_read_failed, is_write_failed}
use Rattle.http_requests.specs.Runs.{IsLeftBy}
use Rattle.console.specs.Answers.{fault_answer}
use Rattle.console.specs.States.{ConsoleStep, begun}
use Rattle.run_changes.specs.Serving.Store.{NoneFailed, OnlyWrites, OpensWith, LeavesDesk, ServesNone}
use Rattle.run_common.specs.Ends.{IsSteady, IsStopped}
use Rattle.run_common.specs.Status.{IsOneOf, each_status}
use Rattle.run_common.specs.declared.status.Status.TheVariants.{Done, Refused, NoMemory, BadItem, KeeperFailed}

-- The status by how the connection ended: 0 between two requests or with one that closes it, 3 with a fault of the framing or the
-- last request that is answered on one connection, and 4 with a read or a write that failed.
abbrev pub status_at : ConnectionEnd → ℕ
status_at Ended = 0
status_at Closed = 0
status_at Broken = 3
status_at Spent = 3
status_at ReadFailed = 4
status_at WriteFailed = 4

module _ {K : Type 0} (members : Ghosts K) where
  -- The connection is served by a desk that begins with these tables, whose keeper had failed so often. Each request gives its own
  -- moment: there is no clock. `tells` says that the door tells its connections.
  pub record ReplaysConnection (tells : Type 0) (tables : DeskTables) (faults : ℕ) (returned : K) (old new : DoorView) (status : ℕ) : Type 0 where
    pub end : ConnectionEnd
    pub status_is : status ≡ status_at end
    -- Whatever the door, some requests lead from the tables to what is left. Where it tells, they are those of the octets that were
    -- taken of the connection, and what was written are their answers.
    pub left : IsLeftBy (ConsoleStep (Unit {0})) (LeavesDesk members (Unit {0}) faults returned []) (begun (opened tables) [])
    pub served : tells → IsServed (ConsoleStep (Unit {0})) fault_answer Header (LeavesDesk members (Unit {0}) faults returned []) end (begun (opened tables) []) old new
    -- a read or a write that failed was the last call of the door
    pub calls : ReadsAndWrites (is_read_failed end) (is_write_failed end) old new

  -- A desk is opened and the connection served by it.
  pub record OpensAndReplays (tells : Type 0) (keeper returned : K) (old new : DoorView) (status : ℕ) : Type 0 where
    pub tables : DeskTables
    pub opens : OpensWith members tables keeper returned
    pub replays : ReplaysConnection tells tables (faults_of members keeper) returned old new status

  -- A run of `replay`. `tells` says that the door tells its connections.
  pub record ReplaysStore (tells : Type 0) (keeper returned : K) (old new : DoorView) (status : ℕ) : Type 0 where
    -- A read or a write that fails ends the run. With 7 the keeper failed in the opening.
    pub honest : RunsHonestly members each_status (IsStopped old new) (IsSteady old new) keeper returned status
    -- The connection is served, or the store is refused, or memory is wanted before the connection is read.
    pub runs : OpensAndReplays tells keeper returned old new status ⊎ ServesNone members tells keeper returned old new status
    pub unread : tells → IsOneOf (NoMemory ∷ BadItem ∷ KeeperFailed ∷ []) status → OnlyWrites old.state new.state
    -- Where no call of the door or the keeper failed, the connection is served to its end, but for want of memory and for an item
    -- that is no record.
    pub complete : NoneFailed (faults_of members keeper) (faults_of members returned) old new → IsOneOf (Done ∷ Refused ∷ NoMemory ∷ BadItem ∷ []) status
    -- No port is bound, and the connection isn't left.
    pub same_turns : new.turns ≡ old.turns

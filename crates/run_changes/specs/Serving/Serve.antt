-- What a run of `serve` over a store and the connections of a port does.
use Rattle.std.specs.Prelude.{if◌then◌else◌, ◌≡◌, ℕ, ◌⊎◌, Bool, IsTrue, List, [], ◌∷◌}
use Rattle.mud_world.specs.declared.keeper.Keeper.{Ghosts}
use Rattle.mud_world.specs.Kept.{faults_of}
use Rattle.mud_world.specs.Door.{bound_anew}
use Rattle.mud_world.specs.View.{DoorView}
use Rattle.desk_model.specs.DeskTables.{DeskTables}
use Rattle.desk_model.specs.Sessions.{opened}
use Rattle.run_desk.specs.Honest.{RunsHonestly}
use Rattle.http_requests.specs.declared.fault.MomentFrom.TheVariants.{Clock}
use Rattle.http_requests.specs.Runs.{IsLeftBy}
use Rattle.http_requests.specs.Visits.{ServedInTurn, TakesTurns}
use Rattle.console.specs.Answers.{fault_answer}
use Rattle.console.specs.States.{ConsoleState, ConsoleStep, begun}
use Rattle.run_changes.specs.Serving.Store.{NoneFailed, OnlyWrites, OpensWith, LeavesDesk, ServesNone}
use Rattle.run_common.specs.Ends.{IsStoppedListening}
use Rattle.run_common.specs.Status.{IsOneOf, each_but_refused}
use Rattle.run_common.specs.declared.status.Status.TheVariants.{Done, NoMemory, BadItem, KeeperFailed}

-- The port that is bound, and the most connections that are served.
pub record Listening : Type 0 where
  pub port : ℕ
  pub count : ℕ

abbrev pub listening : ℕ → ℕ → Listening
listening port count = record { port = port; count = count }

-- The moments that the clock will give, before a run and after it.
pub record ClockRun : Type 0 where
  pub before : List ℕ
  pub after : List ℕ

abbrev pub clock_run : List ℕ → List ℕ → ClockRun
clock_run before after = record { before = before; after = after }

-- the door at a moment, but bound to the port
abbrev pub bound_view : ℕ → DoorView → DoorView
bound_view port old = record old { state = bound_anew port old.state }

-- The port couldn't be bound, and nothing was done.
pub record IsUnbound (keeps : ConsoleState → Type 0) (failed : Bool) (s : ConsoleState) (old new : DoorView) : Type 0 where
  pub has_failed : IsTrue failed
  pub kept : keeps s
  pub same_state : new.state ≡ old.state
  pub same_reads : new.reads ≡ old.reads
  pub same_writes : new.writes ≡ old.writes

module _ {K : Type 0} (members : Ghosts K) where
  -- Connections are served by a desk that begins with these tables, whose keeper had failed so often. Each whole request asks the
  -- clock once. `tells` says that the door tells its connections, and `clock_tells` that the clock tells its moments.
  pub record ServesConnections (tells clock_tells : Type 0) (tables : DeskTables) (faults : ℕ) (returned : K) (at : Listening) (clock : ClockRun) (old new : DoorView) (status : ℕ) : Type 0 where
    -- whether the door failed to bind the port or to go on to a connection
    pub failed : Bool
    pub status_is : status ≡ (if failed then 4 else 0)
    -- a call that failed so was the last one of the door
    pub calls : TakesTurns failed old new
    -- Whatever the door, some requests lead from the tables to what is left. Where it tells, they are those of the connections, one
    -- after the other, and what was written to each are the answers to its own. A connection whose read or write fails is over.
    pub left : IsLeftBy (ConsoleStep clock_tells) (LeavesDesk members clock_tells faults returned clock.after) (begun (opened tables) clock.before)
    pub served : tells → IsUnbound (LeavesDesk members clock_tells faults returned clock.after) failed (begun (opened tables) clock.before) old new
        ⊎ ServedInTurn (ConsoleStep clock_tells) fault_answer Clock (LeavesDesk members clock_tells faults returned clock.after) failed at.count (begun (opened tables) clock.before)
        (bound_view at.port old) new

  -- A desk is opened and the connections served by it.
  pub record OpensAndServes (tells clock_tells : Type 0) (keeper returned : K) (at : Listening) (clock : ClockRun) (old new : DoorView) (status : ℕ) : Type 0 where
    pub tables : DeskTables
    pub opens : OpensWith members tables keeper returned
    pub serves : ServesConnections tells clock_tells tables (faults_of members keeper) returned at clock old new status

  -- A run of `serve`. `tells` says that the door tells its connections, and `clock_tells` that the clock tells its moments.
  pub record ServesStore (tells clock_tells : Type 0) (keeper returned : K) (at : Listening) (clock : ClockRun) (old new : DoorView) (status : ℕ) : Type 0 where
    -- Only a failure to bind the port, to go on to a connection, or to write the line of an item that is no record ends the run. With 7 the
    -- keeper failed in the opening.
    pub honest : RunsHonestly members each_but_refused (IsStoppedListening old new) (new.turns ≡ old.turns) keeper returned status
    -- The connections are served; or the store is refused, or memory is wanted before the port is bound, and the clock isn't asked.
    pub runs : OpensAndServes tells clock_tells keeper returned at clock old new status
        ⊎ (ServesNone members tells keeper returned old new status × (clock.after ≡ clock.before))
    pub unread : tells → IsOneOf (NoMemory ∷ BadItem ∷ KeeperFailed ∷ []) status → OnlyWrites old.state new.state
    -- Where no call of the door or the keeper failed, all connections are served, but for want of memory and for an item that is no
    -- record.
    pub complete : NoneFailed (faults_of members keeper) (faults_of members returned) old new → IsOneOf (Done ∷ NoMemory ∷ BadItem ∷ []) status

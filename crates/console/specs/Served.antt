-- What serving makes of a console.
use Rattle.std.specs.Prelude.{ℕ, Bool}
use Rattle.mud_world.specs.declared.clock.Clock as clock
use Rattle.mud_world.specs.declared.keeper.Keeper.{Ghosts}
use Rattle.mud_world.specs.Kept.{faults_of}
use Rattle.mud_world.specs.View.{DoorView}
use Rattle.mud_desk.specs.DeskState.{session_of}
use Rattle.http_requests.specs.declared.fault.MomentFrom.{MomentFrom}
use Rattle.http_requests.specs.declared.end.ConnectionEnd.{ConnectionEnd}
use Rattle.http_requests.specs.Ends.{IsServed}
use Rattle.http_requests.specs.Runs.{IsLeftBy}
use Rattle.http_requests.specs.Visits.{ServedInTurn}
use Rattle.console.specs.Answers.{fault_answer}
use Rattle.console.specs.declared.console.Console.{Console}
use Rattle.console.specs.States.{ConsoleState, ConsoleStep, IsAt, begun}

module _ {K : Type 0} (members : Ghosts K) {C : Type 0} (clocks : clock.Ghosts C) (old new : Console K C) where
  -- the state in which the console was
  abbrev pub state_before : ConsoleState
  state_before = begun (session_of old.desk.state) (clocks.moments old.clock.now)

  -- the console is in the state now
  abbrev pub IsNow : ConsoleState → Type 0
  IsNow = IsAt clocks.tells new.desk.state (clocks.moments new.clock.now) (faults_of members old.desk.keeper) (faults_of members new.desk.keeper)

  -- It is in a state that some requests left.
  abbrev pub IsLeftByRequests : Type 0
  IsLeftByRequests = IsLeftBy (ConsoleStep clocks.tells) IsNow state_before

  -- They are those of one connection, and what was written are their answers.
  abbrev pub ServesOne : MomentFrom → ConnectionEnd → DoorView → DoorView → Type 0
  ServesOne from end door door_now = IsServed (ConsoleStep clocks.tells) fault_answer from IsNow end state_before door door_now

  -- They are those of connections that were served one after the other, and what was written are their answers.
  abbrev pub ServesInTurn : MomentFrom → Bool → ℕ → DoorView → DoorView → Type 0
  ServesInTurn from failed count door door_now = ServedInTurn (ConsoleStep clocks.tells) fault_answer from IsNow failed count state_before door door_now

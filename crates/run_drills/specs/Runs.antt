-- What commands of a drill leave of a desk and its keeper.
use Rattle.std.specs.Prelude.{◌≡◌, ◌<◌, IsTrue, List, ◌++◌, length}
use Rattle.mud_world.specs.declared.keeper.Keeper.{Ghosts}
use Rattle.mud_world.specs.Kept.{faults_of}
use Rattle.mud_world.specs.Causes.{Counts}
use Rattle.desk_model.specs.declared.command.Command.{Command}
use Rattle.mud_desk.specs.DeskState.{session_of}
use Rattle.mud_desk.specs.declared.desk.Desk.{Desk}
use Rattle.mud_desk.specs.Stays.{StaysKept}
use Rattle.run_drills.specs.Drill.{session_after}
use Rattle.run_drills.specs.declared.stop.Stop.{Stop}
use Rattle.run_drills.specs.Stops.{has_keeper_failed}

module _ {K : Type 0} (members : Ghosts K) where
  -- All the commands ran: the desk is in the session behind them, and its lists are kept.
  pub record RanAll (commands : List Command) (before after : Desk K) : Type 0 where
    pub session : session_of after.state ≡ session_after (session_of before.state) commands
    pub stays : StaysKept members before after
    pub steady : faults_of members after.keeper ≡ faults_of members before.keeper

  -- Some of them ran, in order from the first on: the desk is in the session behind these, and its lists are kept.
  -- The keeper failed in this call exactly where it is named, which is at the next command.
  pub record RanPart (stop : Stop) (commands : List Command) (before after : Desk K) : Type 0 where
    pub ran : List Command
    pub rest : List Command
    pub split : commands ≡ ran ++ rest
    pub more : IsTrue (has_keeper_failed stop) → 0 < length rest
    pub session : session_of after.state ≡ session_after (session_of before.state) ran
    pub stays : StaysKept members before after
    pub cause : Counts (has_keeper_failed stop) (faults_of members before.keeper) (faults_of members after.keeper)

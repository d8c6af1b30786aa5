-- What a run of the program's words does, over a store in memory alone or in a file.
use Rattle.std.specs.Prelude.{◌≡◌, ℕ, List, []}
use Rattle.mud_world.specs.declared.clock.Clock as clock
use Rattle.mud_world.specs.declared.door.Door as door
use Rattle.mud_world.specs.declared.keeper.Keeper.{Ghosts}
use Rattle.mud_world.specs.declared.memory_keeper.MemoryKeeper.{MemoryKeeper}
use Rattle.mud_world.specs.declared.spool.Spool as spool
use Rattle.mud_world.specs.MemoryKeeper.{IsNew}
use Rattle.run_common.specs.Status.{Is}
use Rattle.run_common.specs.declared.status.Status.TheVariants.{Unlisted}
use Rattle.mud_cli.specs.NextRun.{LeavesBehind, LeavesSame}
use Rattle.mud_cli.specs.Runs.{AsTold, Does, LeavesAlone, World}

-- Of a run that began with this keeper and returned that one.
pub record RunsWords {K : Type 0} (members : Ghosts K) {D P C : Type 0} (doors : door.Ghosts D) (spools : spool.Ghosts P) (clocks : clock.Ghosts C)
    (keeper returned : K) (old new : World D P C) (status : ℕ) (words : List (List ℕ)) : Type 0 where
  -- Words that are no listed line touch nothing.
  pub untouched : Is Unlisted status → (returned ≡ keeper) × (new ≡ old)
  -- A listed command does what its record says, and leaves alone what isn't its own.
  pub does : AsTold (Does members doors spools clocks keeper returned old new status) words
  pub alone : AsTold (LeavesAlone keeper returned old new status) words
  -- It leaves behind what a crash may make of the items that it kept.
  pub left : LeavesBehind members keeper returned
  pub reads : AsTold (LeavesSame members keeper returned) words

-- Of a run that began with this keeper, where none is handed out.
pub record RanWords {K : Type 0} (members : Ghosts K) {D P C : Type 0} (doors : door.Ghosts D) (spools : spool.Ghosts P) (clocks : clock.Ghosts C)
    (keeper : K) (old new : World D P C) (status : ℕ) (words : List (List ℕ)) : Type 0 where
  pub last : K
  pub runs : RunsWords members doors spools clocks keeper last old new status words

-- The run began with a keeper in memory that was made just then, and holds no item; and did this.
pub record BeginsEmpty (Does : MemoryKeeper → Type 0) : Type 0 where
  pub first : MemoryKeeper
  pub empty : IsNew [] first
  pub does : Does first

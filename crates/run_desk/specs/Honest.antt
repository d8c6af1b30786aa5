-- What each status of a run over a store says of the outside.
use Rattle.std.specs.Prelude.{ℕ, List}
use Rattle.mud_world.specs.declared.keeper.Keeper.{Ghosts}
use Rattle.mud_world.specs.Kept.{faults_of, Tells}
use Rattle.mud_world.specs.Causes.{Rose}
use Rattle.run_common.specs.Status.{Is, IsNot, IsOneOf}
use Rattle.run_common.specs.declared.status.Status.{Status}
use Rattle.run_common.specs.declared.status.Status.TheVariants.{DoorFailed, KeeperFailed}

module _ {K : Type 0} (members : Ghosts K) where
  -- One of these statuses comes. It is 4 only where a call of the outside failed and stopped the run in this way; with another
  -- status, the calls that stop it didn't fail. It is 7 only where the keeper failed in this run. A keeper that tells its items in the end
  -- told them when the run began.
  pub record RunsHonestly (may : List Status) (stopped steadily : Type 0) (keeper returned : K) (status : ℕ) : Type 0 where
    pub statuses : IsOneOf may status
    pub fault : Is DoorFailed status → stopped
    pub steady : IsNot DoorFailed status → steadily
    pub keeper_fault : Is KeeperFailed status → Rose (faults_of members keeper) (faults_of members returned)
    pub told : Tells members returned → Tells members keeper

-- How a run of `export` asks the clock.
use Rattle.std.specs.Prelude.{◌≡◌, ℕ, ◌⊎◌, List, [], ◌∷◌}
use Rattle.mud_world.specs.Clock.{later_moments}
use Rattle.run_common.specs.Status.{Is, IsOneOf}
use Rattle.run_common.specs.declared.status.Status.TheVariants.{Done, Refused, BadItem, KeeperFailed}

-- It is asked once where lists were written, at most once else, and not where there is no such Thing nor where the store can't be
-- opened. `tells` says that it tells its moments.
pub record AsksClockOnce {C : Type 0} (tells : Type 0) (moments : C → List ℕ) (clock clock_after : C) (status : ℕ) : Type 0 where
  pub asked : tells → Is Done status → moments clock_after ≡ later_moments (moments clock)
  pub once : tells → (moments clock_after ≡ moments clock) ⊎ (moments clock_after ≡ later_moments (moments clock))
  pub unasked : IsOneOf (Refused ∷ BadItem ∷ KeeperFailed ∷ []) status → clock_after ≡ clock

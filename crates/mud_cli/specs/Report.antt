-- How a run of `report` asks the clock.
use Rattle.std.specs.Prelude.{◌≡◌, ℕ, ◌⊎◌, false, List, [], ◌∷◌}
use Rattle.run_words.specs.declared.command.ReportKind.{ReportKind}
use Rattle.run_reports.specs.Tables.{asks_clock, moments_after}
use Rattle.run_common.specs.Status.{Is, IsOneOf}
use Rattle.run_common.specs.declared.status.Status.TheVariants.{Done, BadItem, KeeperFailed}

-- It is asked at most once, and only where the table of this kind needs the moment now and the store was opened. `tells` says that
-- it tells its moments.
pub record AsksClock {C : Type 0} (tells : Type 0) (moments : C → List ℕ) (kind : ReportKind) (clock clock_after : C) (status : ℕ) : Type 0 where
  pub asked : tells → Is Done status → moments clock_after ≡ moments_after kind (moments clock)
  pub once : tells → (moments clock_after ≡ moments clock) ⊎ (moments clock_after ≡ moments_after kind (moments clock))
  pub unasked : asks_clock kind ≡ false → clock_after ≡ clock
  pub unopened : IsOneOf (BadItem ∷ KeeperFailed ∷ []) status → clock_after ≡ clock

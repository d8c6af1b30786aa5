-- What a run of `export` over a store does.
use Rattle.std.specs.Prelude.{◌≡◌, ℕ, List, [], ◌∷◌}
use Rattle.mud_base.specs.declared.addr.Mac.{Mac}
use Rattle.mud_world.specs.declared.keeper.Keeper.{Ghosts}
use Rattle.mud_world.specs.Kept.{Tells, kept_items}
use Rattle.mud_world.specs.Clock.{next_moment}
use Rattle.mud_world.specs.Door.{DoorState}
use Rattle.run_common.specs.Ends.{IsStoppedWriting}
use Rattle.mud_world.specs.View.{DoorView}
use Rattle.desk_model.specs.DeskTables.{DeskTables}
use Rattle.run_desk.specs.Honest.{RunsHonestly}
use Rattle.run_desk.specs.Refused.{ByStore, RefusesStore}
use Rattle.run_desk.specs.Store.{LeavesStore}
use Rattle.run_reports.specs.Export.Exported.{export_output, WritesLists}
use Rattle.run_common.specs.Status.{IsNot, IsOneOf, each_status}
use Rattle.run_common.specs.declared.status.Status.TheVariants.{Done, Refused, DoorFailed, NoMemory, BadItem}

-- What is written of a Thing of a store that keeps this desk. Nothing is read.
pub record WritesThing (mac : Mac) (clock_tells : Type 0) (moments : List ℕ) (old new : DoorState) (status : ℕ) (desk : DeskTables) : Type 0 where
  -- What the clock gave: the moment that it tells next, where it tells its moments.
  pub clock : ℕ
  pub clock_is : clock_tells → clock ≡ next_moment moments
  -- No item is there to be named with 6.
  pub good : IsNot BadItem status
  pub lists : WritesLists (export_output mac clock desk) old new status

-- where the desk was opened
abbrev pub IsOfDesk : ℕ → Type 0
IsOfDesk status = IsOneOf (Done ∷ Refused ∷ DoorFailed ∷ NoMemory ∷ []) status

module _ {K : Type 0} (members : Ghosts K) where
  -- A run of `export`. `tells` says that the door tells its connections, and `clock_tells` that the clock tells its moments, which
  -- are these.
  pub record ExportsStore (mac : Mac) (tells clock_tells : Type 0) (moments : List ℕ) (keeper returned : K) (old new : DoorView) (status : ℕ) : Type 0 where
    -- A write that fails ends the run.
    pub honest : RunsHonestly members each_status (IsStoppedWriting old new) (new.writes ≡ old.writes) keeper returned status
    -- The items that are kept when the run ends say what the output is.
    pub writes : tells → Tells members returned → ByStore (kept_items members returned) (WritesThing mac clock_tells moments old.state new.state status)
        (RefusesStore (kept_items members returned) old.state new.state status)
    pub leaves : LeavesStore members keeper returned status
    -- No port is bound, the connection isn't left, and no read fails.
    pub same_turns : new.turns ≡ old.turns
    pub same_reads : new.reads ≡ old.reads

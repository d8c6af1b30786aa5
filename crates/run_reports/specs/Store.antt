-- What a run of `report` over a store does.
use Rattle.std.specs.Prelude.{◌≡◌, ℕ, List, Option, [], ◌∷◌}
use Rattle.mud_world.specs.declared.keeper.Keeper.{Ghosts}
use Rattle.mud_world.specs.Kept.{Tells, kept_items}
use Rattle.mud_world.specs.Door.{DoorState, put_out}
use Rattle.run_words.specs.declared.command.ReportKind.{ReportKind}
use Rattle.run_common.specs.Ends.{IsStoppedWriting}
use Rattle.run_common.specs.Output.{WroteFirst}
use Rattle.mud_world.specs.View.{DoorView}
use Rattle.desk_model.specs.DeskTables.{DeskTables}
use Rattle.run_desk.specs.Honest.{RunsHonestly}
use Rattle.run_desk.specs.Refused.{ByStore, RefusesStore}
use Rattle.run_desk.specs.Store.{LeavesStore}
use Rattle.run_reports.specs.Tables.{clock_for, table_text}
use Rattle.run_common.specs.Status.{Is, IsNot, IsOneOf, each_but_refused}
use Rattle.run_common.specs.declared.status.Status.TheVariants.{Done, DoorFailed, NoMemory, BadItem}

-- What is written of a table of a store that keeps this desk. Nothing is read.
pub record WritesTable (kind : ReportKind) (clock_tells : Type 0) (moments : List ℕ) (old new : DoorState) (status : ℕ) (desk : DeskTables) : Type 0 where
  -- What the clock gave: the moment that it tells next, where it tells its moments.
  pub clock : Option ℕ
  pub clock_is : clock_tells → clock ≡ clock_for kind moments
  -- With 0 the table was written, with 4 and 5 a first part of it. No item is there to be named with 6.
  pub good : IsNot BadItem status
  pub done : Is Done status → new ≡ put_out (table_text kind clock desk) old
  pub part : IsOneOf (DoorFailed ∷ NoMemory ∷ []) status → WroteFirst (table_text kind clock desk) old new

module _ {K : Type 0} (members : Ghosts K) where
  -- A run of `report`. `tells` says that the door tells its connections, and `clock_tells` that the clock tells its moments, which
  -- are these.
  pub record ReportsStore (kind : ReportKind) (tells clock_tells : Type 0) (moments : List ℕ) (keeper returned : K) (old new : DoorView) (status : ℕ) : Type 0 where
    -- A write that fails ends the run.
    pub honest : RunsHonestly members each_but_refused (IsStoppedWriting old new) (new.writes ≡ old.writes) keeper returned status
    -- The items that are kept when the run ends say what the output is.
    pub writes : tells → Tells members returned → ByStore (kept_items members returned) (WritesTable kind clock_tells moments old.state new.state status)
        (RefusesStore (kept_items members returned) old.state new.state status)
    pub leaves : LeavesStore members keeper returned status
    -- No port is bound, the connection isn't left, and no read fails.
    pub same_turns : new.turns ≡ old.turns
    pub same_reads : new.reads ≡ old.reads

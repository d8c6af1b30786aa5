-- What a run of `report` promises where the desk is opened, and where it isn't.
use Rattle.std.proofs.Common.{◌≡◌, ◌≢◌, ℕ, ◌⊎◌, inl, inr, List, Option, sym, subst, arith}
use Rattle.mud_world.specs.declared.keeper.Keeper.{Ghosts}
use Rattle.mud_world.specs.Kept.{faults_of, Tells, kept_items, Rests}
use Rattle.mud_world.specs.Causes.{StopsAtFailure}
use Rattle.mud_world.specs.Door.{DoorState, put_out}
use Rattle.run_words.specs.declared.command.ReportKind.{ReportKind}
use Rattle.run_common.specs.Output.{WroteFirst}
use Rattle.mud_world.specs.View.{DoorView}
use Rattle.desk_model.specs.DeskTables.{DeskTables, IsSound}
use Rattle.desk_model.specs.Keeping.{KeepsDesk}
use Rattle.desk_model.specs.Kept.{IsKept}
use Rattle.run_desk.proofs.Refusals.{RunsRefused}
use Rattle.run_desk.proofs.Stores.{keeps_tables, leaves_opened}
use Rattle.run_reports.specs.Store.{ReportsStore, WritesTable}
use Rattle.run_reports.specs.Tables.{clock_for, table_text}

-- ---- Statuses

abbrev pub IsOfTable : ℕ → Type 0
IsOfTable status = (status ≡ 0) ⊎ ((status ≡ 4) ⊎ (status ≡ 5))

abbrev IsOfReport : ℕ → Type 0
IsOfReport status = (status ≡ 0) ⊎ ((status ≡ 4) ⊎ ((status ≡ 5) ⊎ ((status ≡ 6) ⊎ (status ≡ 7))))

of_table : (status : ℕ) → IsOfTable status → IsOfReport status
of_table status (inl zero) = inl zero
of_table status (inr (inl four)) = inr (inl four)
of_table status (inr (inr five)) = inr (inr (inl five))

pub no_six : {A : Type 0} (status : ℕ) → IsOfTable status → status ≡ 6 → A
no_six status is six = absurd (grind arith)

pub no_seven : {A : Type 0} (status : ℕ) → IsOfTable status → status ≡ 7 → A
no_seven status is seven = absurd (grind arith)

-- ---- What is written

module _ (kind : ReportKind) (clock_tells : Type 0) (moments : List ℕ) (old new : DoorState) (status : ℕ) where
  -- a table of the desk was written, at what the clock gave
  pub writes_table : (desk : DeskTables) (clock : Option ℕ) → (clock_tells → clock ≡ clock_for kind moments) → IsOfTable status
      → (status ≡ 0 → new ≡ put_out (table_text kind clock desk) old)
      → ((status ≡ 4) ⊎ (status ≡ 5) → WroteFirst (table_text kind clock desk) old new)
      → WritesTable kind clock_tells moments old new status desk
  writes_table desk clock clock_is is done part = record {
    clock = clock;
    clock_is = clock_is;
    good = λ six. no_six status is six;
    done = done;
    part = part;
  }

-- ---- Runs

module _ {K : Type 0} (members : Ghosts K) (keeper after : K) (kind : ReportKind) (tells clock_tells : Type 0) (moments : List ℕ) (old new : DoorView) (status : ℕ) where
  pub opened_run : (tables : DeskTables)
      → (Tells members keeper → Tells members after → KeepsDesk (kept_items members keeper) tables)
      → IsSound tables → IsKept members after tables → faults_of members after ≡ faults_of members keeper
      → (Tells members after → Tells members keeper) → Rests members after
      → IsOfTable status
      → (status ≡ 4 → StopsAtFailure new.failed old.writes new.writes)
      → (status ≢ 4 → new.writes ≡ old.writes)
      → (tells → WritesTable kind clock_tells moments old.state new.state status tables)
      → new.turns ≡ old.turns → new.reads ≡ old.reads → (returned : K) → returned ≡ after
      → ReportsStore members kind tells clock_tells moments keeper returned old new status
  opened_run tables read sound kept same_count back rests is fault steady writes turns reads returned same = subst (λ (it : K). ReportsStore members kind tells clock_tells moments keeper it old new status) (sym same) (record {
    honest = record {
      statuses = of_table status is;
      fault = fault;
      steady = steady;
      keeper_fault = λ seven. no_seven status is seven;
      told = back;
    };
    writes = λ told tell. inl (tables, keeps_tables members after tables sound kept tell, writes told);
    leaves = leaves_opened members keeper after status tables rests read sound kept same_count (λ six. no_six status is six);
    same_turns = turns;
    same_reads = reads;
  })

  pub refused_report : RunsRefused members tells keeper after old new status → ReportsStore members kind tells clock_tells moments keeper after old new status
  refused_report run = record {
    honest = record {
      statuses = inr run.honest.statuses;
      fault = run.honest.fault;
      steady = run.honest.steady;
      keeper_fault = run.honest.keeper_fault;
      told = run.honest.told;
    };
    writes = λ told tell. inr (run.refuses told tell);
    leaves = run.leaves;
    same_turns = run.same_turns;
    same_reads = run.same_reads;
  }

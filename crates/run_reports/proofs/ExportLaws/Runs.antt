-- What a run of `export` promises where the desk is opened, and where it isn't.
use Rattle.std.proofs.Common.{◌≡◌, ◌≢◌, ℕ, ◌⊎◌, inl, inr, List, sym, subst, arith}
use Rattle.mud_world.specs.declared.keeper.Keeper.{Ghosts}
use Rattle.mud_world.specs.Kept.{faults_of, Tells, kept_items, Rests}
use Rattle.mud_world.specs.Causes.{StopsAtFailure}
use Rattle.mud_world.specs.Door.{DoorState}
use Rattle.mud_base.specs.declared.addr.Mac.{Mac}
use Rattle.mud_world.specs.Clock.{next_moment}
use Rattle.mud_world.specs.View.{DoorView}
use Rattle.desk_model.specs.DeskTables.{DeskTables, IsSound}
use Rattle.desk_model.specs.Keeping.{KeepsDesk}
use Rattle.desk_model.specs.Kept.{IsKept}
use Rattle.run_desk.proofs.Refusals.{RunsRefused}
use Rattle.run_desk.proofs.Stores.{keeps_tables, leaves_opened}
use Rattle.run_reports.specs.Export.Exported.{export_output, WritesLists}
use Rattle.run_reports.specs.Export.Store.{ExportsStore, IsOfDesk, WritesThing}

-- ---- Statuses

abbrev IsOfExport : ℕ → Type 0
IsOfExport status = (status ≡ 0) ⊎ ((status ≡ 3) ⊎ ((status ≡ 4) ⊎ ((status ≡ 5) ⊎ ((status ≡ 6) ⊎ (status ≡ 7)))))

of_desk : (status : ℕ) → IsOfDesk status → IsOfExport status
of_desk status (inl zero) = inl zero
of_desk status (inr (inl three)) = inr (inl three)
of_desk status (inr (inr (inl four))) = inr (inr (inl four))
of_desk status (inr (inr (inr five))) = inr (inr (inr (inl five)))

pub no_six : {A : Type 0} (status : ℕ) → IsOfDesk status → status ≡ 6 → A
no_six status is six = absurd (grind arith)

pub no_seven : {A : Type 0} (status : ℕ) → IsOfDesk status → status ≡ 7 → A
no_seven status is seven = absurd (grind arith)

-- ---- What is written

module _ (mac : Mac) (clock_tells : Type 0) (moments : List ℕ) (old new : DoorState) (status : ℕ) where
  -- the output of a desk was written, at what the clock gave
  pub writes_desk : (desk : DeskTables) (clock : ℕ) → (clock_tells → clock ≡ next_moment moments) → IsOfDesk status
      → WritesLists (export_output mac clock desk) old new status → WritesThing mac clock_tells moments old new status desk
  writes_desk desk clock clock_is is wrote = record {
    clock = clock;
    clock_is = clock_is;
    good = λ six. no_six status is six;
    lists = wrote;
  }

-- ---- Runs

module _ {K : Type 0} (members : Ghosts K) (keeper after : K) (mac : Mac) (tells clock_tells : Type 0) (moments : List ℕ) (old new : DoorView) (status : ℕ) where
  pub opened_run : (tables : DeskTables)
      → (Tells members keeper → Tells members after → KeepsDesk (kept_items members keeper) tables)
      → IsSound tables → IsKept members after tables → faults_of members after ≡ faults_of members keeper
      → (Tells members after → Tells members keeper) → Rests members after
      → IsOfDesk status
      → (status ≡ 4 → StopsAtFailure new.failed old.writes new.writes)
      → (status ≢ 4 → new.writes ≡ old.writes)
      → (tells → WritesThing mac clock_tells moments old.state new.state status tables)
      → new.turns ≡ old.turns → new.reads ≡ old.reads → (returned : K) → returned ≡ after
      → ExportsStore members mac tells clock_tells moments keeper returned old new status
  opened_run tables read sound kept same_count back rests is fault steady writes turns reads returned same = subst (λ (it : K). ExportsStore members mac tells clock_tells moments keeper it old new status) (sym same) (record {
    honest = record {
      statuses = of_desk status is;
      fault = fault;
      steady = steady;
      keeper_fault = λ seven. no_seven status is seven;
      told = back;
    };
    writes = λ told tell. inl (tables, keeps_tables members after tables sound kept tell, writes told);
    leaves = leaves_opened members keeper after status tables rests read sound kept same_count (λ six. no_six status is six);
    same_turns = turns;
    same_reads = reads;
  })

  pub refused_export : RunsRefused members tells keeper after old new status → ExportsStore members mac tells clock_tells moments keeper after old new status
  refused_export run = record {
    honest = record {
      statuses = inr (inr run.honest.statuses);
      fault = run.honest.fault;
      steady = run.honest.steady;
      keeper_fault = run.honest.keeper_fault;
      told = run.honest.told;
    };
    writes = λ told tell. inr (run.refuses told tell);
    leaves = run.leaves;
    same_turns = run.same_turns;
    same_reads = run.same_reads;
  }

-- What a run that reads a capture promises where the desk is opened, and where it isn't.
use Rattle.std.proofs.Common.{◌≡◌, ◌≢◌, ℕ, ◌⊎◌, inl, inr, List, sym, subst}
use Rattle.mud_world.specs.declared.keeper.Keeper.{Ghosts}
use Rattle.mud_world.specs.Kept.{faults_of, Tells, kept_items, Rests}
use Rattle.mud_world.specs.Causes.{EndsAtFailure}
use Rattle.read_buffer.specs.Packets.{Packet}
use Rattle.run_captures.specs.Capture.{WritesTaken}
use Rattle.run_captures.specs.Fold.{LineStep}
use Rattle.run_common.specs.Output.{Output, WritesOutput, WritesPart}
use Rattle.mud_world.specs.View.{DoorView}
use Rattle.desk_model.specs.DeskTables.{DeskTables, IsSound}
use Rattle.desk_model.specs.Keeping.{KeepsDesk}
use Rattle.desk_model.specs.Kept.{IsKept}
use Rattle.run_desk.specs.Store.{ReadsByStore}
use Rattle.run_desk.proofs.Refusals.{RunsRefused, reads_honestly}
use Rattle.run_desk.proofs.Stores.{IsOfCapture, keeps_tables, leaves_opened, no_six, no_seven, writes_opened}

abbrev IsOfStore : ℕ → Type 0
IsOfStore status = (status ≡ 0) ⊎ ((status ≡ 3) ⊎ ((status ≡ 4) ⊎ ((status ≡ 5) ⊎ ((status ≡ 6) ⊎ (status ≡ 7)))))

of_capture : (status : ℕ) → IsOfCapture status → IsOfStore status
of_capture status (inl zero) = inl zero
of_capture status (inr (inl three)) = inr (inl three)
of_capture status (inr (inr (inl four))) = inr (inr (inl four))
of_capture status (inr (inr (inr five))) = inr (inr (inr (inl five)))

-- ---- Runs

module _ {K : Type 0} (members : Ghosts K) (keeper after : K) (tells : Type 0) (old new : DoorView) (status : ℕ)
    {S : Type 0} (output : DeskTables → List ℕ → Output) (step : S → Packet → LineStep S) (from : DeskTables → S) where
  pub opened_over : (tables : DeskTables)
      → (Tells members keeper → Tells members after → KeepsDesk (kept_items members keeper) tables)
      → IsSound tables → IsKept members after tables → faults_of members after ≡ faults_of members keeper
      → (Tells members after → Tells members keeper) → Rests members after
      → IsOfCapture status
      → (status ≡ 4 → EndsAtFailure new.failed old.reads new.reads old.writes new.writes)
      → (status ≢ 4 → (new.reads ≡ old.reads) × (new.writes ≡ old.writes))
      → (tells → (status ≡ 0) ⊎ (status ≡ 3) → WritesOutput (output tables old.state.left) old.state new.state status)
      → (tells → (status ≡ 4) ⊎ (status ≡ 5) → WritesPart (output tables old.state.left) old.state new.state)
      → (tells → new.reads ≢ old.reads → WritesTaken step (from tables) old.state new.state)
      → new.turns ≡ old.turns → (returned : K) → returned ≡ after → ReadsByStore members output step from tells keeper returned old new status
  opened_over tables read sound kept same_count back rests is fault steady done part gone turns returned same = subst (λ (it : K). ReadsByStore members output step from tells keeper it old new status) (sym same) (record {
    honest = record {
      statuses = of_capture status is;
      fault = fault;
      steady = steady;
      keeper_fault = λ seven. no_seven status is seven;
      told = back;
    };
    writes = λ told tell. inl (tables, keeps_tables members after tables sound kept tell, writes_opened output step from tables old new status is (done told) (part told) (gone told));
    leaves = leaves_opened members keeper after status tables rests read sound kept same_count (λ six. no_six status is six);
    same_turns = turns;
  })

  pub refused_over : RunsRefused members tells keeper after old new status → ReadsByStore members output step from tells keeper after old new status
  refused_over run = record {
    honest = reads_honestly members keeper after old new status run.honest run.same_reads;
    writes = λ told tell. inr (run.refuses told tell, run.same_reads);
    leaves = run.leaves;
    same_turns = run.same_turns;
  }

-- What a run of `replay` promises where the connection is served, and where it isn't.
use Rattle.std.proofs.Common.{◌≡◌, ◌≢◌, ℕ, ◌⊎◌, inl, inr, [], refl, ap, subst, ◌∙◌, arith}
use Rattle.mud_world.specs.declared.keeper.Keeper.{Ghosts}
use Rattle.mud_world.specs.Kept.{faults_of, Tells, kept_items}
use Rattle.mud_world.specs.Causes.{Rose}
use Rattle.mud_world.specs.View.{DoorView}
use Rattle.desk_model.specs.DeskTables.{DeskTables, IsSound}
use Rattle.desk_model.specs.Keeping.{KeepsDesk}
use Rattle.desk_model.specs.Sessions.{Session, opened}
use Rattle.desk_model.specs.Kept.{IsKept}
use Rattle.mud_desk.specs.DeskState.{DeskState, session_of, tables_of}
use Rattle.http_requests.specs.declared.fault.MomentFrom.TheVariants.{Header}
use Rattle.http_requests.specs.Doors.{ReadsAndWrites}
use Rattle.http_requests.specs.declared.end.ConnectionEnd.{ConnectionEnd}
use Rattle.http_requests.specs.declared.end.ConnectionEnd.TheVariants.{Ended, Closed, Broken, Spent, ReadFailed, WriteFailed}
use Rattle.http_requests.specs.Ends.{IsServed, is_read_failed, is_write_failed}
use Rattle.http_requests.specs.Runs.{IsLeftBy}
use Rattle.run_common.specs.Ends.{IsSteady, IsStopped}
use Rattle.run_desk.proofs.Refusals.{reads_honestly}
use Rattle.console.specs.Answers.{fault_answer}
use Rattle.console.specs.States.{ConsoleStep, IsAt, begun}
use Rattle.run_changes.specs.Serving.Store.{NoneFailed, ServesNone}
use Rattle.run_changes.specs.Serving.Replay.{ReplaysConnection, ReplaysStore, status_at}
use Rattle.run_changes.proofs.ServingLaws.Left.{left_as, served_as, leaves}
use Rattle.run_changes.proofs.ServingLaws.Refusals.{rose_at_failure}

-- ---- Statuses

abbrev IsOfReplay : ℕ → Type 0
IsOfReplay status = (status ≡ 0) ⊎ ((status ≡ 3) ⊎ ((status ≡ 4) ⊎ ((status ≡ 5) ⊎ ((status ≡ 6) ⊎ (status ≡ 7)))))

abbrev IsComplete : ℕ → Type 0
IsComplete status = (status ≡ 0) ⊎ ((status ≡ 3) ⊎ ((status ≡ 5) ⊎ (status ≡ 6)))

statuses_at : (end : ConnectionEnd) (status : ℕ) → status ≡ status_at end → IsOfReplay status
statuses_at Ended status is = inl is
statuses_at Closed status is = inl is
statuses_at Broken status is = inr (inl is)
statuses_at Spent status is = inr (inl is)
statuses_at ReadFailed status is = inr (inr (inl is))
statuses_at WriteFailed status is = inr (inr (inl is))

at_most_four : {A : Type 0} (end : ConnectionEnd) (status : ℕ) → status ≡ status_at end → (status ≡ 5) ⊎ ((status ≡ 6) ⊎ (status ≡ 7)) → A
at_most_four Ended status is which = absurd (grind arith)
at_most_four Closed status is which = absurd (grind arith)
at_most_four Broken status is which = absurd (grind arith)
at_most_four Spent status is which = absurd (grind arith)
at_most_four ReadFailed status is which = absurd (grind arith)
at_most_four WriteFailed status is which = absurd (grind arith)

module _ (status : ℕ) (old new : DoorView) where
  fault_at : (end : ConnectionEnd) → status ≡ status_at end → ReadsAndWrites (is_read_failed end) (is_write_failed end) old new → status ≡ 4 → IsStopped old new
  fault_at Ended is calls four = absurd (omega (arith, is, four))
  fault_at Closed is calls four = absurd (omega (arith, is, four))
  fault_at Broken is calls four = absurd (omega (arith, is, four))
  fault_at Spent is calls four = absurd (omega (arith, is, four))
  fault_at ReadFailed is calls four = inl (calls.read_stop refl, calls.writes.steady refl)
  fault_at WriteFailed is calls four = inr (calls.write_stop refl, calls.reads.steady refl)

  steady_at : (end : ConnectionEnd) → status ≡ status_at end → ReadsAndWrites (is_read_failed end) (is_write_failed end) old new → status ≢ 4 → IsSteady old new
  steady_at Ended is calls other = (calls.reads.steady refl, calls.writes.steady refl)
  steady_at Closed is calls other = (calls.reads.steady refl, calls.writes.steady refl)
  steady_at Broken is calls other = (calls.reads.steady refl, calls.writes.steady refl)
  steady_at Spent is calls other = (calls.reads.steady refl, calls.writes.steady refl)
  steady_at ReadFailed is calls other = absurd (other is)
  steady_at WriteFailed is calls other = absurd (other is)

  complete_at : (end : ConnectionEnd) → status ≡ status_at end → ReadsAndWrites (is_read_failed end) (is_write_failed end) old new
      → ¬ (Rose old.reads new.reads) → ¬ (Rose old.writes new.writes) → IsComplete status
  complete_at Ended is calls no_read no_write = inl is
  complete_at Closed is calls no_read no_write = inl is
  complete_at Broken is calls no_read no_write = inr (inl is)
  complete_at Spent is calls no_read no_write = inr (inl is)
  complete_at ReadFailed is calls no_read no_write = absurd (no_read (calls.reads.rose refl))
  complete_at WriteFailed is calls no_read no_write = absurd (no_write (calls.writes.rose refl))

-- ---- The connection

module _ {K : Type 0} (members : Ghosts K) where
  pub replayed : (tells : Type 0) (tables : DeskTables) (state ended : DeskState) (faults : ℕ) (after returned : K) (end : ConnectionEnd) (old new : DoorView) (status : ℕ)
      → session_of state ≡ opened tables → IsKept members after (tables_of ended) → returned ≡ after → status ≡ status_at end
      → IsLeftBy (ConsoleStep (Unit {0})) (IsAt (Unit {0}) ended [] faults (faults_of members after)) (begun (session_of state) [])
      → (tells → IsServed (ConsoleStep (Unit {0})) fault_answer Header (IsAt (Unit {0}) ended [] faults (faults_of members after)) end (begun (session_of state) []) old new)
      → ReadsAndWrites (is_read_failed end) (is_write_failed end) old new
      → ReplaysConnection members tells tables faults returned old new status
  replayed tells tables state ended faults after returned end old new status is kept same status_is left served calls =
      let first = ap (λ (s : Session). begun s []) is in
      let then = leaves members (Unit {0}) after returned ended [] faults kept same in
      record {
        end = end;
        status_is = status_is;
        left = left_as (Unit {0}) _ _ then _ _ first left;
        served = λ told. served_as (Unit {0}) _ _ then _ _ first Header end old new (served told);
        calls = calls;
      }

  -- ---- The store

  module _ (tells : Type 0) (keeper returned : K) (old new : DoorView) (status : ℕ) where
    pub replays_none : ServesNone members tells keeper returned old new status → ReplaysStore members tells keeper returned old new status
    replays_none p = record {
      honest = reads_honestly members keeper returned old new status p.honest p.same_reads;
      runs = inr p;
      unread = λ told which. p.only_writes told;
      complete = λ none. none_complete none p.honest.statuses;
      same_turns = p.same_turns;
    }
      where
        none_complete : NoneFailed (faults_of members keeper) (faults_of members returned) old new → (status ≡ 4) ⊎ ((status ≡ 5) ⊎ ((status ≡ 6) ⊎ (status ≡ 7))) → IsComplete status
        none_complete none (inl four) = absurd (none.writes (rose_at_failure new.failed old.writes new.writes (p.honest.fault four)))
        none_complete none (inr (inl five)) = inr (inr (inl five))
        none_complete none (inr (inr (inl six))) = inr (inr (inr six))
        none_complete none (inr (inr (inr seven))) = absurd (none.keeper (p.honest.keeper_fault seven))

    pub replays_opened : (tables : DeskTables) (begins : K)
        → (Tells members keeper → Tells members begins → KeepsDesk (kept_items members keeper) tables)
        → IsSound tables → faults_of members begins ≡ faults_of members keeper → (Tells members begins → Tells members keeper)
        → ReplaysConnection members tells tables (faults_of members begins) returned old new status
        → (Tells members returned → Tells members begins)
        → ReplaysStore members tells keeper returned old new status
    replays_opened tables begins read sound same_count back run told = record {
      honest = record {
        statuses = statuses_at run.end status run.status_is;
        fault = fault_at status old new run.end run.status_is run.calls;
        steady = steady_at status old new run.end run.status_is run.calls;
        keeper_fault = λ seven. at_most_four run.end status run.status_is (inr (inr seven));
        told = λ now. back (told now);
      };
      runs = inl (record {
        tables = tables;
        opens = record { sound = sound; were_kept = λ before now. read before (told now) };
        replays = subst (λ (faults : ℕ). ReplaysConnection members tells tables faults returned old new status) same_count run;
      });
      unread = λ tell which. at_most_four run.end status run.status_is which;
      complete = λ none. complete_at status old new run.end run.status_is run.calls none.reads none.writes;
      same_turns = run.calls.turns;
    }

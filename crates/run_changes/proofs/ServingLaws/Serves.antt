-- What a run of `serve` promises where connections are served, and where they aren't.
use Rattle.std.proofs.Common.{◌≡◌, ◌≢◌, ℕ, ◌⊎◌, inl, inr, Bool, true, false, IsTrue, cond, List, [], refl, ap, subst, ◌∙◌, arith}
use Rattle.mud_world.specs.declared.keeper.Keeper.{Ghosts}
use Rattle.mud_world.specs.Kept.{faults_of, Tells, kept_items}
use Rattle.mud_world.specs.Causes.{Counts, Rose, StopsAtFailure}
use Rattle.mud_world.specs.Door.{bound_anew}
use Rattle.mud_world.specs.View.{DoorView}
use Rattle.desk_model.specs.DeskTables.{DeskTables, IsSound}
use Rattle.desk_model.specs.Keeping.{KeepsDesk}
use Rattle.desk_model.specs.Sessions.{Session, opened}
use Rattle.desk_model.specs.Kept.{IsKept}
use Rattle.mud_desk.specs.DeskState.{DeskState, session_of, tables_of}
use Rattle.http_requests.specs.declared.fault.MomentFrom.TheVariants.{Clock}
use Rattle.http_requests.specs.Runs.{IsLeftBy}
use Rattle.http_requests.specs.Visits.{ServedInTurn, TakesTurns}
use Rattle.console.specs.Answers.{fault_answer}
use Rattle.console.specs.States.{ConsoleState, ConsoleStep, IsAt, begun}
use Rattle.console.proofs.Takes.{at_first}
use Rattle.run_changes.specs.Serving.Store.{NoneFailed, LeavesDesk, ServesNone}
use Rattle.run_changes.specs.Serving.Serve.{Listening, ClockRun, bound_view, clock_run, ServesConnections, ServesStore}
use Rattle.run_changes.proofs.ServingLaws.Left.{left_as, in_turn_as, in_turn_before, leaves}
use Rattle.run_changes.proofs.ServingLaws.Refusals.{rose_at_failure}

-- ---- Statuses

abbrev status_by : Bool → ℕ
status_by failed = cond failed 4 0

abbrev IsComplete : ℕ → Type 0
IsComplete status = (status ≡ 0) ⊎ ((status ≡ 5) ⊎ (status ≡ 6))

statuses_by : (failed : Bool) (status : ℕ) → status ≡ status_by failed → (status ≡ 0) ⊎ ((status ≡ 4) ⊎ ((status ≡ 5) ⊎ ((status ≡ 6) ⊎ (status ≡ 7))))
statuses_by true status is = inr (inl is)
statuses_by false status is = inl is

at_most_four : {A : Type 0} (failed : Bool) (status : ℕ) → status ≡ status_by failed → (status ≡ 5) ⊎ ((status ≡ 6) ⊎ (status ≡ 7)) → A
at_most_four true status is which = absurd (grind arith)
at_most_four false status is which = absurd (grind arith)

fault_by : (failed last : Bool) (status before now : ℕ) → status ≡ status_by failed → (IsTrue failed → StopsAtFailure last before now) → status ≡ 4 → StopsAtFailure last before now
fault_by true last status before now is stop four = stop refl
fault_by false last status before now is stop four = absurd (omega (arith, is, four))

steady_by : (failed : Bool) (status before now : ℕ) → status ≡ status_by failed → Counts failed before now → status ≢ 4 → now ≡ before
steady_by true status before now is turns other = absurd (other is)
steady_by false status before now is turns other = turns.steady refl

complete_by : (failed : Bool) (status before now : ℕ) → status ≡ status_by failed → Counts failed before now → ¬ (Rose before now) → IsComplete status
complete_by true status before now is turns no_turn = absurd (no_turn (turns.rose refl))
complete_by false status before now is turns no_turn = inl is

module _ {K : Type 0} (members : Ghosts K) where
  module _ (tells clock_tells : Type 0) (tables : DeskTables) (state : DeskState) (is : session_of state ≡ opened tables) (returned : K) (at : Listening) where
    -- ---- The port couldn't be bound

    pub unbound : (begins : K) (moments : List ℕ) (old new : DoorView) (status : ℕ) → IsKept members begins (tables_of state) → returned ≡ begins → status ≡ 4
        → Counts true old.turns new.turns → StopsAtFailure new.failed old.turns new.turns → (tells → new.state ≡ old.state) → new.reads ≡ old.reads → new.writes ≡ old.writes
        → ServesConnections members tells clock_tells tables (faults_of members begins) returned at (clock_run moments moments) old new status
    unbound begins moments old new status kept same status_is turns stop untouched reads writes =
        let first = ap (λ (s : Session). begun s moments) is in
        let then = leaves members clock_tells begins returned state moments (faults_of members begins) kept same in
        let leaves_first : LeavesDesk members clock_tells (faults_of members begins) returned moments (begun (session_of state) moments) =
        then _ (at_first clock_tells state moments (faults_of members begins)) in
        let leaves_begun = subst (λ (s : ConsoleState). LeavesDesk members clock_tells (faults_of members begins) returned moments s) first leaves_first in
        record {
          failed = true;
          status_is = status_is;
          calls = record { turns = turns; stop = λ failed. stop; reads = omega (arith, reads); writes = omega (arith, writes) };
          left = record { all = []; next = begun (opened tables) moments; kept = leaves_begun; leads = refl };
          served = λ told. inl (record { has_failed = refl; kept = leaves_begun; same_state = untouched told; same_reads = reads; same_writes = writes });
        }

    -- ---- The connections

    pub served_here : (ended : DeskState) (faults : ℕ) (after : K) (failed : Bool) (moments moments_after : List ℕ) (old mid new : DoorView) (status : ℕ)
        → IsKept members after (tables_of ended) → returned ≡ after → status ≡ status_by failed
        → (tells → mid.state ≡ bound_anew at.port old.state) → Counts false old.turns mid.turns → mid.reads ≡ old.reads → mid.writes ≡ old.writes
        → IsLeftBy (ConsoleStep clock_tells) (IsAt clock_tells ended moments_after faults (faults_of members after)) (begun (session_of state) moments)
        → (tells → ServedInTurn (ConsoleStep clock_tells) fault_answer Clock (IsAt clock_tells ended moments_after faults (faults_of members after)) failed at.count (begun (session_of state) moments) mid new)
        → TakesTurns failed mid new
        → ServesConnections members tells clock_tells tables faults returned at (clock_run moments moments_after) old new status
    served_here ended faults after failed moments moments_after old mid new status kept same status_is binds bound same_reads same_writes left served calls =
        let first = ap (λ (s : Session). begun s moments) is in
        let then = leaves members clock_tells after returned ended moments_after faults kept same in
        record {
          failed = failed;
          status_is = status_is;
          calls = record {
            turns = subst (λ (n : ℕ). Counts failed n new.turns) (bound.steady refl) calls.turns;
            stop = subst (λ (n : ℕ). IsTrue failed → StopsAtFailure new.failed n new.turns) (bound.steady refl) calls.stop;
            reads = omega (arith, same_reads, calls.reads);
            writes = omega (arith, same_writes, calls.writes);
          };
          left = left_as clock_tells _ _ then _ _ first left;
          served = λ told. inr (in_turn_as clock_tells _ _ then _ _ first Clock failed at.count (bound_view at.port old) new
              (in_turn_before clock_tells _ _ Clock failed at.count (bound_view at.port old) mid new (binds told) same_reads same_writes (served told)));
        }

  -- ---- The store

  module _ (tells clock_tells : Type 0) (keeper returned : K) (at : Listening) (clock : ClockRun) (old new : DoorView) (status : ℕ) where
    pub serves_none : ServesNone members tells keeper returned old new status → clock.after ≡ clock.before
        → ServesStore members tells clock_tells keeper returned at clock old new status
    serves_none p unasked = record {
      honest = record {
        statuses = inr p.honest.statuses;
        fault = λ four. inr (p.honest.fault four);
        steady = λ other. p.same_turns;
        keeper_fault = p.honest.keeper_fault;
        told = p.honest.told;
      };
      runs = inr (p, unasked);
      unread = λ told which. p.only_writes told;
      complete = λ none. none_complete none p.honest.statuses;
    }
      where
        none_complete : NoneFailed (faults_of members keeper) (faults_of members returned) old new → (status ≡ 4) ⊎ ((status ≡ 5) ⊎ ((status ≡ 6) ⊎ (status ≡ 7))) → IsComplete status
        none_complete none (inl four) = absurd (none.writes (rose_at_failure new.failed old.writes new.writes (p.honest.fault four)))
        none_complete none (inr (inl five)) = inr (inl five)
        none_complete none (inr (inr (inl six))) = inr (inr six)
        none_complete none (inr (inr (inr seven))) = absurd (none.keeper (p.honest.keeper_fault seven))

    pub serves_opened : (tables : DeskTables) (begins : K)
        → (Tells members keeper → Tells members begins → KeepsDesk (kept_items members keeper) tables)
        → IsSound tables → faults_of members begins ≡ faults_of members keeper → (Tells members begins → Tells members keeper)
        → ServesConnections members tells clock_tells tables (faults_of members begins) returned at clock old new status
        → (Tells members returned → Tells members begins)
        → ServesStore members tells clock_tells keeper returned at clock old new status
    serves_opened tables begins read sound same_count back run told = record {
      honest = record {
        statuses = statuses_by run.failed status run.status_is;
        fault = λ four. inl (fault_by run.failed new.failed status old.turns new.turns run.status_is run.calls.stop four);
        steady = steady_by run.failed status old.turns new.turns run.status_is run.calls.turns;
        keeper_fault = λ seven. at_most_four run.failed status run.status_is (inr (inr seven));
        told = λ now. back (told now);
      };
      runs = inl (record {
        tables = tables;
        opens = record { sound = sound; were_kept = λ before now. read before (told now) };
        serves = subst (λ (faults : ℕ). ServesConnections members tells clock_tells tables faults returned at clock old new status) same_count run;
      });
      unread = λ tell which. at_most_four run.failed status run.status_is which;
      complete = λ none. complete_by run.failed status old.turns new.turns run.status_is run.calls.turns none.turns;
    }

-- What requests leave of a desk, once its keeper is handed back.
use Rattle.std.proofs.Common.{◌≡◌, ℕ, zero, suc, Bool, List, refl, sym, ap, ◌∙◌, subst, arith}
use Rattle.std.specs.List.{count_by}
use Rattle.mud_world.specs.declared.keeper.Keeper.{Ghosts}
use Rattle.mud_world.specs.Kept.{faults_of}
use Rattle.mud_world.specs.Causes.{Rose}
use Rattle.mud_world.specs.Door.{DoorState}
use Rattle.mud_world.specs.View.{DoorView}
use Rattle.desk_model.specs.DeskTables.{DeskTables}
use Rattle.desk_model.specs.Sessions.{Session}
use Rattle.desk_model.specs.Kept.{IsKept}
use Rattle.mud_desk.specs.DeskState.{DeskState, session_of, tables_of}
use Rattle.http_requests.specs.declared.fault.MomentFrom.{MomentFrom}
use Rattle.http_requests.specs.declared.end.ConnectionEnd.{ConnectionEnd}
use Rattle.http_requests.specs.Ends.{IsServed}
use Rattle.http_requests.specs.Runs.{IsLeftBy}
use Rattle.http_requests.specs.Visits.{AreEnough, CountsOf, count_behind, ServedInTurn, Visited}
use Rattle.console.specs.Answers.{fault_answer}
use Rattle.console.specs.States.{ConsoleState, ConsoleStep, IsAt}
use Rattle.run_changes.specs.Serving.Store.{LeavesDesk}
use Rattle.http_requests.proofs.Pieces.{failed_to_read, failed_to_write}

none_where_steady : (unavailable before now : ℕ) → CountsOf unavailable before now → ¬ (Rose before now) → unavailable ≡ 0
none_where_steady zero before now counts steady = refl
none_where_steady (suc count) before now counts steady = absurd (steady (let rose = counts.rose in omega (arith, rose)))

desk_of_session : (state : DeskState) → (session_of state).desk ≡ tables_of state
unfolding session_of
desk_of_session state = refl

-- ---- What is kept behind requests, said otherwise

module _ (tells : Type 0) (keeps keeps' : ConsoleState → Type 0) (then : (n : ConsoleState) → keeps n → keeps' n) (s t : ConsoleState) (same : s ≡ t) where
  pub left_as : IsLeftBy (ConsoleStep tells) keeps s → IsLeftBy (ConsoleStep tells) keeps' t
  left_as p = subst (λ (at : ConsoleState). IsLeftBy (ConsoleStep tells) keeps' at) same (record { all = p.all; next = p.next; kept = then p.next p.kept; leads = p.leads })

  pub served_as : (from : MomentFrom) (end : ConnectionEnd) (old new : DoorView) → IsServed (ConsoleStep tells) fault_answer from keeps end s old new → IsServed (ConsoleStep tells) fault_answer from keeps' end t old new
  served_as from end old new p =
      subst (λ (at : ConsoleState). IsServed (ConsoleStep tells) fault_answer from keeps' end at old new) same (record { next = p.next; kept = then p.next p.kept; served = p.served })

  pub in_turn_as : (from : MomentFrom) (failed : Bool) (count : ℕ) (old new : DoorView) → ServedInTurn (ConsoleStep tells) fault_answer from keeps failed count s old new
      → ServedInTurn (ConsoleStep tells) fault_answer from keeps' failed count t old new
  in_turn_as from failed count old new p =
      let v = p.visited in
      subst (λ (at : ConsoleState). ServedInTurn (ConsoleStep tells) fault_answer from keeps' failed count at old new) same (record {
        visits = p.visits;
        visited = record { next = v.next; kept = then v.next v.kept; served = v.served; came = v.came; past = v.past; bound = v.bound };
        enough = p.enough;
        reads = p.reads;
        writes = p.writes;
      })

-- the same of a door whose connections and whose counts of failed reads and writes were the same before
pub in_turn_before : (tells : Type 0) (keeps : ConsoleState → Type 0) (s : ConsoleState) (from : MomentFrom) (failed : Bool) (count : ℕ) (first mid new : DoorView)
    → mid.state ≡ first.state → mid.reads ≡ first.reads → mid.writes ≡ first.writes
    → ServedInTurn (ConsoleStep tells) fault_answer from keeps failed count s mid new → ServedInTurn (ConsoleStep tells) fault_answer from keeps failed count s first new
in_turn_before tells keeps s from failed count first mid new same_state same_reads same_writes p = record {
  visits = p.visits;
  visited = subst (λ (d : DoorState). Visited (ConsoleStep tells) fault_answer from keeps s p.visits d new.state) same_state p.visited;
  enough = subst (λ (d : DoorState). AreEnough failed count p.visits d) same_state p.enough;
  reads = p.reads ∙ ap (count_behind (count_by failed_to_read p.visits)) same_reads;
  writes = p.writes ∙ ap (count_behind (count_by failed_to_write p.visits)) same_writes;
}

-- ---- The keeper

module _ {K : Type 0} (members : Ghosts K) (tells : Type 0) (after returned : K) (state : DeskState) (moments : List ℕ) (faults : ℕ) where
  pub leaves : IsKept members after (tables_of state) → returned ≡ after → (s : ConsoleState) → IsAt tells state moments faults (faults_of members after) s
      → LeavesDesk members tells faults returned moments s
  leaves kept same s at =
      subst (λ (it : K). LeavesDesk members tells faults it moments s) (sym same) (record {
        kept = subst (λ (desk : DeskTables). IsKept members after desk) (sym (ap (λ (session : Session). session.desk) at.session ∙ desk_of_session state)) kept;
        clock = at.clock;
        paid = at.paid;
        risen = at.risen;
        answered = none_where_steady s.unavailable faults (faults_of members after) at.paid;
      })

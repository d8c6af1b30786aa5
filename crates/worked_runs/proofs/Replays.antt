-- How a replay of no octet ends.
use Rattle.std.proofs.Common.{◌≡◌, ◌⊎◌, inl, inr, ℕ, ◌<◌, List, [], ◌∷◌, ◌++◌, length, Ok, sym, ap, ◌∙◌, subst, refl, arith}
use Rattle.std.specs.List.{AllByRecursion}
use Rattle.mud_base.specs.Numbers.{IsOctets}
use Rattle.mud_world.specs.Door.{DoorState, outputs, put_out, with_left}
use Rattle.mud_world.specs.View.{DoorView}
use Rattle.mud_world.specs.declared.keeper.Keeper.{Ghosts}
use Rattle.mud_world.specs.Kept.{Tells, kept_items, faults_of}
use Rattle.desk_model.specs.DeskTables.{DeskTables}
use Rattle.desk_model.specs.Items.{tables_in}
use Rattle.desk_model.specs.Sessions.{opened}
use Rattle.http_requests.specs.declared.end.ConnectionEnd.{ConnectionEnd}
use Rattle.http_requests.specs.declared.end.ConnectionEnd.TheVariants as ends
use Rattle.http_requests.specs.declared.fault.MomentFrom.{MomentFrom}
use Rattle.http_requests.specs.declared.fault.MomentFrom.TheVariants.{Header}
use Rattle.http_requests.specs.Ends.{IsServed}
use Rattle.http_requests.specs.Requests.{AreRequests, Ending, Request, broken, closed, ended, spent, most_requests}
use Rattle.http_requests.specs.Runs.{Runs}
use Rattle.http_requests.proofs.Heads.{head_some}
use Rattle.http_requests.proofs.Readings.{fault_some}
use Rattle.console.specs.Answers.{fault_answer}
use Rattle.console.specs.States.{ConsoleState, ConsoleStep, begun}
use Rattle.run_changes.specs.Serving.Replay.{ReplaysStore, OpensAndReplays, status_at}
use Rattle.run_changes.specs.Serving.Store.{LeavesDesk, ServesNone}
use Rattle.run_common.specs.Status.{Is, IsOneOf, each_status}
use Rattle.run_common.specs.declared.status.Status.TheVariants.{Done, Refused, DoorFailed, NoMemory, BadItem, KeeperFailed}
use Rattle.worked_runs.proofs.Ends.{failed_once, pieces_in}
use Rattle.worked_runs.proofs.Stores.{EndsOver, ended_refuses, rose_from}
use Rattle.worked_runs.proofs.Changes.{keeps_on, none_bad}

none_in : {A : Type 0} (octets : List ℕ) → octets ≡ [] → 0 < length octets → A
none_in octets none some = absurd (omega (arith, ap (λ (o : List ℕ). length o) none, some))

-- no request stands in no octet
asks_none : (from : MomentFrom) (most : ℕ) (octets : List ℕ) (requests : List Request) (end : Ending) → octets ≡ [] → AreRequests from most octets requests end → requests ≡ []
asks_none from most octets [] end none are = refl
asks_none from most octets (r ∷ more) end none (after, begins, rest) = none_in octets none (head_some octets r.head (r.body ++ after) begins.head)

-- and only the end of the octets ends it
unclosed : (from : MomentFrom) (octets : List ℕ) (requests : List Request) → octets ≡ [] → AreRequests from most_requests octets requests closed → ⊥
unclosed from octets requests none are =
    subst (λ (rs : List Request). AreRequests from most_requests octets rs closed) (asks_none from most_requests octets requests closed none are) are

unspent : (from : MomentFrom) (octets : List ℕ) (requests : List Request) → octets ≡ [] → AreRequests from most_requests octets requests spent → ⊥
unspent from octets requests none are =
    subst (λ (rs : List Request). AreRequests from most_requests octets rs spent) (asks_none from most_requests octets requests spent none are) are

module _ {K : Type 0} (members : Ghosts K) (kept returned : K) (known : DeskTables)
    (read : tables_in (kept_items members kept) ≡ Ok known) (octets : AllByRecursion (λ item. IsOctets item.body) (kept_items members kept))
    (told : Tells members kept) (tells : Tells members returned) (fresh : faults_of members kept ≡ 0) where
  pub replays_end : {old new : DoorView} {status : ℕ}
      → old.state ≡ pieces_in [] → old.reads ≡ 0 → old.writes ≡ 0
      → ReplaysStore members (Unit {0}) kept returned old new status
      → EndsOver known [] 0 new status (kept_items members returned) (faults_of members returned)
  replays_end {old} {new} {status} is reads writes run = by run.honest.statuses
    where
      none : old.state.left ≡ []
      none = ap (λ (s : DoorState). s.left) is

      Ended : Type 0
      Ended = EndsOver known [] 0 new status (kept_items members returned) (faults_of members returned)

      Served : DeskTables → ConnectionEnd → Type 0
      Served tables end = IsServed (ConsoleStep (Unit {0})) fault_answer Header (LeavesDesk members (Unit {0}) (faults_of members kept) returned []) end (begun (opened tables) []) old new

      by_end : IsOneOf (Done ∷ Refused ∷ []) status → (opens : OpensAndReplays members (Unit {0}) kept returned old new status) → (end : ConnectionEnd) → status ≡ status_at end → Served opens.tables end → Ended
      by_end done opens ends.Ended zero served =
          let it = served.served in
          let no_requests = asks_none Header most_requests old.state.left it.done.requests ended none it.reads in
          let ran = subst (λ (rs : List Request). Runs (ConsoleStep (Unit {0})) Header most_requests (begun (opened opens.tables) []) served.next rs it.done.answers) no_requests it.done.run in
          inr (inr (inr (
            zero,
            (
              ap outputs (it.done.state ∙ ap (λ (answers : List ℕ). put_out (answers ++ []) (with_left new.state.left old.state)) ran.1 ∙ ap (λ (s : DoorState). put_out [] (with_left new.state.left s)) is),
              keeps_on members kept returned known read octets told tells fresh opens.tables served.next.session opens.opens.sound (opens.opens.were_kept told tells) (served.kept.kept.items tells) (ap (λ (s : ConsoleState). s.session) (sym ran.0)),
            ),
          )))
      by_end done opens ends.Closed zero served = absurd (unclosed Header old.state.left served.served.done.requests none served.served.reads)
      by_end done opens ends.Broken three served =
          let it = served.served in
          let end = broken it.fault it.pending in
          let are = subst (λ (rs : List Request). AreRequests Header most_requests old.state.left rs end) (asks_none Header most_requests old.state.left it.served.done.requests end none it.served.reads) it.served.reads in
          none_in old.state.left none (fault_some Header old.state.left it.fault it.pending are)
      by_end done opens ends.Spent three served = absurd (unspent Header old.state.left served.served.done.requests none served.served.reads)
      by_end done opens ends.ReadFailed four served = not_four done four
        where
          not_four : IsOneOf (Done ∷ Refused ∷ []) status → status ≡ 4 → Ended
          not_four (inl zero) four = absurd (omega (arith, zero, four))
          not_four (inr three) four = absurd (omega (arith, three, four))
      by_end done opens ends.WriteFailed four served = not_four done four
        where
          not_four : IsOneOf (Done ∷ Refused ∷ []) status → status ≡ 4 → Ended
          not_four (inl zero) four = absurd (omega (arith, zero, four))
          not_four (inr three) four = absurd (omega (arith, three, four))

      done_by : IsOneOf (Done ∷ Refused ∷ []) status → OpensAndReplays members (Unit {0}) kept returned old new status ⊎ ServesNone members (Unit {0}) kept returned old new status → Ended
      done_by done (inl opens) = by_end done opens opens.replays.end opens.replays.status_is (opens.replays.served tt)
      done_by done (inr serves) = absurd (ended_refuses done serves.honest.statuses)

      not_six : (end : ConnectionEnd) → status ≡ status_at end → Is BadItem status → ⊥
      not_six ends.Ended at bad = omega (arith, at, bad)
      not_six ends.Closed at bad = omega (arith, at, bad)
      not_six ends.Broken at bad = omega (arith, at, bad)
      not_six ends.Spent at bad = omega (arith, at, bad)
      not_six ends.ReadFailed at bad = omega (arith, at, bad)
      not_six ends.WriteFailed at bad = omega (arith, at, bad)

      bad_by : Is BadItem status → OpensAndReplays members (Unit {0}) kept returned old new status ⊎ ServesNone members (Unit {0}) kept returned old new status → ⊥
      bad_by bad (inl opens) = not_six opens.replays.end opens.replays.status_is bad
      bad_by bad (inr serves) =
          let it = (serves.says tt tells).done bad in
          none_bad members kept returned known read octets told tells fresh it.item (serves.leaves.same_items bad told tells) it.bad

      by : IsOneOf each_status status → Ended
      by (inl done) = done_by (inl done) run.runs
      by (inr (inl refused)) = done_by (inr refused) run.runs
      by (inr (inr (inl failed))) = inr (inl (failed, failed_once reads writes (run.honest.fault failed)))
      by (inr (inr (inr (inl memory)))) = inl memory
      by (inr (inr (inr (inr (inl bad))))) = absurd (bad_by bad run.runs)
      by (inr (inr (inr (inr (inr failed))))) = inr (inr (inl (failed, rose_from fresh (run.honest.keeper_fault failed))))

-- The lines of a drill in the session that a desk is in, and what a drill over a desk comes to.
use Rattle.std.proofs.Common.{◌≡◌, ◌≢◌, ℕ, ◌⊎◌, inl, inr, List, [], length, refl, sym, ap, ap₂, subst, ◌∙◌, arith, append-nil}
use Rattle.mud_world.specs.declared.keeper.Keeper.{Ghosts}
use Rattle.mud_world.specs.Causes.{StopsAtFailure}
use Rattle.mud_world.specs.Door.{DoorState, put_out}
use Rattle.mud_world.specs.Whole.{WrotePart}
use Rattle.run_common.specs.Output.{WroteFirst}
use Rattle.mud_world.specs.View.{DoorView}
use Rattle.run_common.proofs.Outputs.{wrote_none}
use Rattle.desk_model.specs.DeskTables.{DeskTables, IsSound}
use Rattle.desk_model.specs.Sessions.{Session}
use Rattle.desk_model.specs.Kept.{IsKept}
use Rattle.mud_desk.specs.DeskState.{DeskState, session_of, tables_of}
use Rattle.mud_desk.specs.declared.desk.Desk.{Desk}
use Rattle.run_drills.specs.Commands.{drill_commands}
use Rattle.run_drills.specs.Counts.{count_lines, verdict_counts}
use Rattle.run_drills.specs.Drill.{lines_in, numbers_to, session_after, verdicts_on}
use Rattle.run_drills.specs.declared.stop.Stop.{Stop}
use Rattle.run_drills.specs.declared.stop.Stop.TheVariants.{Keeper, Memory}
use Rattle.run_drills.specs.Stops.{status_at}
use Rattle.run_drills.specs.Runs.{RanAll, RanPart}
use Rattle.run_drills.specs.Store.{DrillsFrom}

-- the tables of a desk are those of its session
pub tables_in_session : (s : Session) (state : DeskState) → session_of state ≡ s → tables_of state ≡ s.desk
unfolding session_of
tables_in_session s state is = ap (λ (x : Session). x.desk) is

pub lines_of_desk : (packets : ℕ) (state : DeskState) (things files : ℕ) (lines : List ℕ) → things ≡ length (tables_of state).tables.things → files ≡ length (tables_of state).files
    → lines ≡ count_lines things files packets (verdict_counts (verdicts_on packets (session_of state) (numbers_to packets))) → lines ≡ lines_in packets (session_of state)
unfolding lines_in session_of
lines_of_desk packets state things files lines counted held is = is ∙ ap₂ (λ (n m : ℕ). count_lines n m packets (verdict_counts (verdicts_on packets (session_of state) (numbers_to packets)))) counted held

pub wrote_first : (text : List ℕ) (old new : DoorState) → WrotePart text old new → WroteFirst text old new
wrote_first text old new part = record { count = part.count; within = omega (arith, part.part); wrote = part.wrote }

-- the text of an output, written as another list
pub wrote_same : (text other : List ℕ) (old new : DoorState) → other ≡ text → new ≡ put_out other old → new ≡ put_out text old
wrote_same text other old new same wrote = wrote ∙ ap (λ (t : List ℕ). put_out t old) same

pub first_same : (text other : List ℕ) (old new : DoorState) → other ≡ text → WrotePart other old new → WroteFirst text old new
first_same text other old new same part = subst (λ (t : List ℕ). WroteFirst t old new) same (wrote_first other old new part)

abbrev pub IsOfLines : ℕ → Type 0
IsOfLines status = (status ≡ 0) ⊎ ((status ≡ 4) ⊎ (status ≡ 5))

of_lines : (status : ℕ) → IsOfLines status → (status ≡ 0) ⊎ ((status ≡ 4) ⊎ ((status ≡ 5) ⊎ (status ≡ 7)))
of_lines status (inl zero) = inl zero
of_lines status (inr (inl four)) = inr (inl four)
of_lines status (inr (inr five)) = inr (inr (inl five))

no_seven : {A : Type 0} (status : ℕ) → IsOfLines status → status ≡ 7 → A
no_seven status is seven = absurd (grind arith)

module _ {K : Type 0} (members : Ghosts K) (tells : Type 0) (packets : ℕ)
    (before after : Desk K) (sound : IsSound (tables_of after.state)) (old new : DoorView) (status : ℕ) where
  -- all commands ran, and the lines were written, or not
  pub lines_run : RanAll members (drill_commands packets) before after
      → IsOfLines status
      → (status ≡ 4 → StopsAtFailure new.failed old.writes new.writes)
      → (status ≢ 4 → new.writes ≡ old.writes)
      → (tells → status ≡ 0 → new.state ≡ put_out (lines_in packets (session_of after.state)) old.state)
      → (tells → (status ≡ 4) ⊎ (status ≡ 5) → WroteFirst (lines_in packets (session_of after.state)) old.state new.state)
      → new.turns ≡ old.turns → new.reads ≡ old.reads
      → (returned : K) → returned ≡ after.keeper → DrillsFrom members tells packets (session_of before.state) before.keeper returned old new status
  lines_run ran is fault steady done part turns reads returned same =
      let same_tables : tables_of after.state ≡ (session_after (session_of before.state) (drill_commands packets)).desk = tables_in_session _ after.state ran.session in
      subst (λ (it : K). DrillsFrom members tells packets (session_of before.state) before.keeper it old new status) (sym same) (record {
        statuses = of_lines status is;
        ran = drill_commands packets;
        rest = [];
        split = sym (append-nil (drill_commands packets));
        all = λ which. refl;
        more = λ seven. no_seven status is seven;
        sound = subst IsSound same_tables sound;
        kept = subst (λ (desk : DeskTables). IsKept members after.keeper desk) same_tables ran.stays.kept;
        told = ran.stays.told;
        done = rw ran.session at done;
        part = rw ran.session at part;
        none = λ seven. no_seven status is seven;
        fault = fault;
        steady = steady;
        keeper_fault = λ seven. no_seven status is seven;
        keeper_steady = λ other. ran.steady;
        same_turns = turns;
        same_reads = reads;
      })

  -- some of them ran, and then it stopped
  pub stopped_run : (stop : Stop) → RanPart members stop (drill_commands packets) before after → status ≡ status_at stop → new ≡ old
      → (returned : K) → returned ≡ after.keeper → DrillsFrom members tells packets (session_of before.state) before.keeper returned old new status
  stopped_run Keeper ran is still returned same =
      let same_tables : tables_of after.state ≡ (session_after (session_of before.state) ran.ran).desk = tables_in_session _ after.state ran.session in
      subst (λ (it : K). DrillsFrom members tells packets (session_of before.state) before.keeper it old new status) (sym same) (record {
        statuses = inr (inr (inr is));
        ran = ran.ran;
        rest = ran.rest;
        split = ran.split;
        all = λ which. absurd (grind arith);
        more = λ seven. ran.more refl;
        sound = subst IsSound same_tables sound;
        kept = subst (λ (desk : DeskTables). IsKept members after.keeper desk) same_tables ran.stays.kept;
        told = ran.stays.told;
        done = λ told zero. absurd (omega (arith, is, zero));
        part = λ told which. absurd (grind arith);
        none = λ seven. ap (λ (d : DoorView). d.state) still;
        fault = λ four. absurd (omega (arith, is, four));
        steady = λ other. ap (λ (d : DoorView). d.writes) still;
        keeper_fault = λ seven. ran.cause.rose refl;
        keeper_steady = λ other. absurd (other is);
        same_turns = ap (λ (d : DoorView). d.turns) still;
        same_reads = ap (λ (d : DoorView). d.reads) still;
      })
  stopped_run Memory ran is still returned same =
      let same_tables : tables_of after.state ≡ (session_after (session_of before.state) ran.ran).desk = tables_in_session _ after.state ran.session in
      subst (λ (it : K). DrillsFrom members tells packets (session_of before.state) before.keeper it old new status) (sym same) (record {
        statuses = inr (inr (inl is));
        ran = ran.ran;
        rest = ran.rest;
        split = ran.split;
        all = λ which. absurd (grind arith);
        more = λ seven. absurd (omega (arith, is, seven));
        sound = subst IsSound same_tables sound;
        kept = subst (λ (desk : DeskTables). IsKept members after.keeper desk) same_tables ran.stays.kept;
        told = ran.stays.told;
        done = λ told zero. absurd (omega (arith, is, zero));
        part = λ told which. wrote_none (lines_in packets (session_after (session_of before.state) (drill_commands packets))) old.state new.state (ap (λ (d : DoorView). d.state) still);
        none = λ seven. absurd (omega (arith, is, seven));
        fault = λ four. absurd (omega (arith, is, four));
        steady = λ other. ap (λ (d : DoorView). d.writes) still;
        keeper_fault = λ seven. absurd (omega (arith, is, seven));
        keeper_steady = λ other. ran.cause.steady refl;
        same_turns = ap (λ (d : DoorView). d.turns) still;
        same_reads = ap (λ (d : DoorView). d.reads) still;
      })

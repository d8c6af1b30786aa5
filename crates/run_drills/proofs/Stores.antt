-- What a run of `drill` promises where the store holds nothing, where it holds something, and where no desk is opened.
use Rattle.std.proofs.Common.{◌≡◌, ◌≢◌, ℕ, ◌==◌, ◌⊎◌, inl, inr, true, false, List, [], ◌∷◌, length, Option, None, is_none, refl, sym, subst, ◌∙◌, arith}
use Rattle.std.proofs.lemmas.Bool.Decides.{Decides-eqb}
use Rattle.std.proofs.lemmas.Bool.{and_parts}
use Rattle.mud_base.specs.declared.prefix.Prefix.{Prefix}
use Rattle.mud_world.specs.declared.keeper.Keeper.{Ghosts}
use Rattle.mud_world.specs.Kept.{faults_of, Tells, kept_items}
use Rattle.mud_world.specs.Causes.{Rose, StopsAtFailure}
use Rattle.mud_world.specs.Door.{put_out}
use Rattle.table_model.specs.declared.thing.Thing.{Thing}
use Rattle.table_model.specs.declared.bind.ClassRow.{ClassRow}
use Rattle.table_model.specs.declared.bind.NameRow.{NameRow}
use Rattle.usage_tables.specs.declared.cached_file.CachedFile.{CachedFile}
use Rattle.run_common.specs.Output.{WroteFirst}
use Rattle.mud_world.specs.View.{DoorView}
use Rattle.desk_model.specs.DeskTables.{DeskTables, IsSound, empty_desk}
use Rattle.desk_model.specs.Keeping.{KeepsDesk}
use Rattle.desk_model.proofs.Keeping.{keeps_none}
use Rattle.desk_model.specs.Sessions.{opened}
use Rattle.desk_model.proofs.ReadSound.{no_stamp}
use Rattle.desk_model.specs.Kept.{IsKept}
use Rattle.run_desk.proofs.Refusals.{RunsRefused, is_refused}
use Rattle.run_desk.proofs.Stores.{is_kept_or, keeps_tables}
use Rattle.run_drills.specs.Commands.{drill_commands}
use Rattle.run_drills.specs.Drill.{drill_text, lines_in, session_after}
use Rattle.run_drills.specs.Store.{DrillsFrom, DrillsStore, IsFull, holds_nothing, not_empty_line}

-- ---- A desk that holds nothing

no_rows : {A : Type 0} (xs : List A) → (length xs == 0) ≡ true → xs ≡ []
no_rows [] is = refl
no_rows (x ∷ xs) is = absurd (omega (arith, (Decides-eqb (length (x ∷ xs)) 0).0 is))

abbrev desk_with : List Thing → List ClassRow → List Prefix → List NameRow → List CachedFile → Option ℕ → DeskTables
desk_with things classes locals names files stamp = record { tables = record { things = things; classes = classes; locals = locals; names = names }; files = files; stamp = stamp }

same_desk : (things : List Thing) (classes : List ClassRow) (locals : List Prefix) (names : List NameRow) (files : List CachedFile) (stamp : Option ℕ)
    → things ≡ [] → classes ≡ [] → locals ≡ [] → names ≡ [] → files ≡ [] → stamp ≡ None → desk_with things classes locals names files stamp ≡ desk_with [] [] [] [] [] None
same_desk things classes locals names files stamp a b c d e f = cc

pub is_new : (desk : DeskTables) → holds_nothing desk ≡ true → desk ≡ empty_desk
unfolding holds_nothing empty_desk
is_new desk is =
    let stamp = and_parts _ (is_none desk.stamp) is in
    let names = and_parts _ (length desk.tables.names == 0) stamp.0 in
    let locals = and_parts _ (length desk.tables.locals == 0) names.0 in
    let classes = and_parts _ (length desk.tables.classes == 0) locals.0 in
    let files = and_parts (length desk.tables.things == 0) (length desk.files == 0) classes.0 in
    same_desk desk.tables.things desk.tables.classes desk.tables.locals desk.tables.names desk.files desk.stamp
    (no_rows desk.tables.things files.0) (no_rows desk.tables.classes classes.1) (no_rows desk.tables.locals locals.1) (no_rows desk.tables.names names.1)
    (no_rows desk.files files.1) (no_stamp desk.stamp stamp.1)

text_of : (packets : ℕ) → lines_in packets (session_after (opened empty_desk) (drill_commands packets)) ≡ drill_text packets
unfolding drill_text
text_of packets = refl

-- ---- Statuses

abbrev IsOfStore : ℕ → Type 0
IsOfStore status = (status ≡ 0) ⊎ ((status ≡ 3) ⊎ ((status ≡ 4) ⊎ ((status ≡ 5) ⊎ ((status ≡ 6) ⊎ (status ≡ 7)))))

of_drill : (status : ℕ) → (status ≡ 0) ⊎ ((status ≡ 4) ⊎ ((status ≡ 5) ⊎ (status ≡ 7))) → IsOfStore status
of_drill status (inl zero) = inl zero
of_drill status (inr (inl four)) = inr (inr (inl four))
of_drill status (inr (inr (inl five))) = inr (inr (inr (inl five)))
of_drill status (inr (inr (inr seven))) = inr (inr (inr (inr (inr seven))))

of_full : (status : ℕ) → (status ≡ 3) ⊎ (status ≡ 4) → IsOfStore status
of_full status (inl three) = inr (inl three)
of_full status (inr four) = inr (inr (inl four))

is_seven_not : {A : Type 0} (status : ℕ) → (status ≡ 3) ⊎ (status ≡ 4) → status ≡ 7 → A
is_seven_not status is seven = absurd (grind arith)

-- ---- A store that holds something

module _ {K : Type 0} (members : Ghosts K) (keeper begun : K) (tells : Type 0) (old new : DoorView) (status packets : ℕ) (tables : DeskTables)
    (read : Tells members keeper → Tells members begun → KeepsDesk (kept_items members keeper) tables)
    (same_count : faults_of members begun ≡ faults_of members keeper) (back : Tells members begun → Tells members keeper) where
  pub drilled_run : holds_nothing tables ≡ true → (returned : K) → DrillsFrom members tells packets (opened tables) begun returned old new status → DrillsStore members tells packets keeper returned old new status
  drilled_run empty returned from =
      let new_desk : tables ≡ empty_desk = is_new tables empty in
      let run : DrillsFrom members tells packets (opened empty_desk) begun returned old new status = subst (λ (desk : DeskTables). DrillsFrom members tells packets (opened desk) begun returned old new status) new_desk from in
      record {
        honest = record {
          statuses = of_drill status run.statuses;
          fault = run.fault;
          steady = run.steady;
          keeper_fault = λ seven. subst (λ (n : ℕ). Rose n (faults_of members returned)) same_count (run.keeper_fault seven);
          told = λ now. back (run.told now);
        };
        keeper_steady = λ other. run.keeper_steady other ∙ same_count;
        runs = λ told. inl (record {
          statuses = run.statuses;
          held = λ before now. keeps_none (kept_items members keeper) (subst (KeepsDesk (kept_items members keeper)) new_desk (read before (run.told now)));
          ran = run.ran;
          rest = run.rest;
          split = run.split;
          all = run.all;
          more = run.more;
          are_kept = run.kept;
          done = λ zero. subst (λ (text : List ℕ). new.state ≡ put_out text old.state) (text_of packets) (run.done told zero);
          part = λ which. subst (λ (text : List ℕ). WroteFirst text old.state new.state) (text_of packets) (run.part told which);
          none = run.none;
        });
        kept = inl (record { tables = (session_after (opened empty_desk) run.ran).desk; sound = run.sound; kept = run.kept });
        same_turns = run.same_turns;
        same_reads = run.same_reads;
      }

  pub full_run : holds_nothing tables ≡ false → IsSound tables → IsKept members begun tables
      → (status ≡ 3) ⊎ (status ≡ 4)
      → (status ≡ 4 → StopsAtFailure new.failed old.writes new.writes)
      → (status ≢ 4 → new.writes ≡ old.writes)
      → (tells → status ≡ 3 → new.state ≡ put_out not_empty_line old.state)
      → (tells → status ≡ 4 → WroteFirst not_empty_line old.state new.state)
      → new.turns ≡ old.turns → new.reads ≡ old.reads
      → (returned : K) → returned ≡ begun → DrillsStore members tells packets keeper returned old new status
  full_run full sound kept is fault steady done part turns reads returned same =
      subst (λ (it : K). DrillsStore members tells packets keeper it old new status) (sym same) (record {
        honest = record {
          statuses = of_full status is;
          fault = fault;
          steady = steady;
          keeper_fault = λ seven. is_seven_not status is seven;
          told = back;
        };
        keeper_steady = λ other. same_count;
        runs = λ told. inr (λ tell. inl (left told tell));
        kept = inl (record { tables = tables; sound = sound; kept = kept });
        same_turns = turns;
        same_reads = reads;
      })
    where
      left : tells → Tells members begun → IsFull members keeper begun old new status
      left told tell =
          let keeps : KeepsDesk (kept_items members begun) tables = keeps_tables members begun tables sound kept tell in
          record {
            statuses = is;
            full = (tables, keeps, full);
            same = λ before. inr (tables, read before tell, keeps);
            done = done told;
            part = part told;
          }

-- ---- A store that isn't opened

module _ {K : Type 0} (members : Ghosts K) (keeper after : K) (tells : Type 0) (old new : DoorView) (status packets : ℕ) where
  pub refused_drill : RunsRefused members tells keeper after old new status → DrillsStore members tells packets keeper after old new status
  refused_drill run = record {
    honest = record {
      statuses = inr (inr run.honest.statuses);
      fault = run.honest.fault;
      steady = run.honest.steady;
      keeper_fault = run.honest.keeper_fault;
      told = run.honest.told;
    };
    keeper_steady = run.leaves.keeper_steady;
    runs = λ told. inr (λ tell. inr (is_refused members keeper after tells old new status run told tell));
    kept = is_kept_or run.leaves.kept;
    same_turns = run.same_turns;
    same_reads = run.same_reads;
  }

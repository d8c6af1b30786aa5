-- What a run of `import` promises where a desk is opened, and where none is.
use Rattle.std.proofs.Common.{◌≡◌, ◌≢◌, ℕ, ◌⊎◌, inl, inr, List, sym, ap, ap₂, subst, ◌∙◌, arith}
use Rattle.mud_world.specs.declared.keeper.Keeper.{Ghosts}
use Rattle.mud_world.specs.Kept.{faults_of, Tells, kept_items}
use Rattle.mud_world.specs.Causes.{Rose}
use Rattle.mud_world.specs.Door.{DoorState}
use Rattle.mud_world.specs.Files.{names_of}
use Rattle.run_common.specs.Ends.{IsStoppedByDoorOrSpool}
use Rattle.desk_model.specs.DeskTables.{IsSound}
use Rattle.desk_model.specs.Keeping.{KeepsDesk}
use Rattle.desk_model.specs.Sessions.{Session, opened}
use Rattle.mud_desk.specs.DeskState.{DeskState, session_of, tables_of}
use Rattle.mud_desk.specs.declared.desk.Desk.{Desk}
use Rattle.mud_desk.specs.Stays.{StaysKept}
use Rattle.run_desk.proofs.Refusals.{RunsRefused, is_refused}
use Rattle.run_desk.proofs.Stores.{is_kept_or, not_seven}
use Rattle.run_changes.specs.Import.Scenes.{standing, scene}
use Rattle.run_changes.specs.Import.Order.{in_order}
use Rattle.run_changes.specs.Import.Runs.{Scene, ImportsPart, ImportsAll}
use Rattle.run_changes.specs.Import.Store.{ImportsStore, scene_in}
use Rattle.mud_world.specs.View.{OutsideView, SpoolView}

-- ---- Statuses

abbrev pub IsOfImport : ℕ → Type 0
IsOfImport status = (status ≡ 0) ⊎ ((status ≡ 3) ⊎ ((status ≡ 4) ⊎ ((status ≡ 5) ⊎ (status ≡ 7))))

of_import : (status : ℕ) → IsOfImport status → (status ≡ 0) ⊎ ((status ≡ 3) ⊎ ((status ≡ 4) ⊎ ((status ≡ 5) ⊎ ((status ≡ 6) ⊎ (status ≡ 7)))))
of_import status (inl zero) = inl zero
of_import status (inr (inl three)) = inr (inl three)
of_import status (inr (inr (inl four))) = inr (inr (inl four))
of_import status (inr (inr (inr (inl five)))) = inr (inr (inr (inl five)))
of_import status (inr (inr (inr (inr seven)))) = inr (inr (inr (inr (inr seven))))

read_of_import : (status : ℕ) → IsOfImport status → (status ≡ 0) ⊎ ((status ≡ 3) ⊎ (status ≡ 6)) → (status ≡ 0) ⊎ (status ≡ 3)
read_of_import status is (inl zero) = inl zero
read_of_import status is (inr (inl three)) = inr three
read_of_import status is (inr (inr six)) = absurd (grind arith)

-- ---- A desk that was opened

abbrev scene_of : Session → List ℕ → DoorState → ℕ → Scene
scene_of session moments door faults = record { standing = record { session = session; moments = moments }; door = door; faults = faults }

scene_begun : (state : DeskState) (moments : List ℕ) (door : DoorState) (a b : ℕ) → session_of state ≡ opened (tables_of state) → a ≡ b
    → scene state moments door a ≡ scene_of (opened (tables_of state)) moments door b
unfolding scene standing
scene_begun state moments door a b begun same = ap₂ (λ (s : Session) (n : ℕ). scene_of s moments door n) begun same

module _ {K : Type 0} (members : Ghosts K) (keeper : K) (tells : Type 0) (old new : OutsideView) (status : ℕ) where
  pub imported_run : (desk ended : Desk K)
      → (Tells members keeper → Tells members desk.keeper → KeepsDesk (kept_items members keeper) (tables_of desk.state))
      → IsSound (tables_of desk.state) → session_of desk.state ≡ opened (tables_of desk.state) → faults_of members desk.keeper ≡ faults_of members keeper → (Tells members desk.keeper → Tells members keeper)
      → StaysKept members desk ended → IsSound (tables_of ended.state)
      → IsOfImport status
      → (status ≡ 4 → IsStoppedByDoorOrSpool old.door new.door old.spool new.spool)
      → (status ≢ 4 → (new.door.writes ≡ old.door.writes) × (new.spool.faults ≡ old.spool.faults))
      → (status ≡ 7 → Rose (faults_of members desk.keeper) (faults_of members ended.keeper))
      → ((status ≡ 0) ⊎ (status ≡ 3) → faults_of members ended.keeper ≡ faults_of members desk.keeper)
      → (tells → (status ≡ 0) ⊎ ((status ≡ 3) ⊎ (status ≡ 7)) → ImportsAll old.spool.files (in_order (names_of old.spool.files)) (scene desk.state old.moments old.door.state (faults_of members desk.keeper))
      (scene ended.state new.moments new.door.state (faults_of members ended.keeper)) status)
      → (tells → (status ≡ 4) ⊎ (status ≡ 5) → ImportsPart old.spool.files (in_order (names_of old.spool.files)) (scene desk.state old.moments old.door.state (faults_of members desk.keeper))
      (scene ended.state new.moments new.door.state (faults_of members ended.keeper)))
      → (tells → new.spool.files ≡ old.spool.files)
      → new.door.turns ≡ old.door.turns → new.door.reads ≡ old.door.reads
      → (returned : K) → returned ≡ ended.keeper → ImportsStore members tells keeper returned old new status
  unfolding scene standing session_of
  imported_run desk ended read sound begins same_count back stays sound_after is fault steady failed unfailed all part files turns reads returned same =
      let first = scene_begun desk.state old.moments old.door.state (faults_of members desk.keeper) (faults_of members keeper) begins same_count in
      subst (λ (it : K). ImportsStore members tells keeper it old new status) (sym same) (record {
        honest = record {
          statuses = of_import status is;
          fault = fault;
          steady = steady;
          keeper_fault = λ seven. subst (λ (n : ℕ). Rose n (faults_of members ended.keeper)) same_count (failed seven);
          told = λ now. back (stays.told now);
        };
        keeper_steady = λ which. unfailed (read_of_import status is which) ∙ same_count;
        runs = λ told. inl (record {
          tables = tables_of desk.state;
          session = session_of ended.state;
          sound = sound;
          were_kept = λ before now. read before (stays.told now);
          imports = record {
            statuses = is;
            all = λ which.
                subst (λ (a : Scene). ImportsAll old.spool.files (in_order (names_of old.spool.files)) a (scene_in (session_of ended.state) new (faults_of members ended.keeper)) status) first (all told which);
            part = λ which.
                subst (λ (a : Scene). ImportsPart old.spool.files (in_order (names_of old.spool.files)) a (scene_in (session_of ended.state) new (faults_of members ended.keeper))) first (part told which);
          };
          are_kept = stays.kept;
        });
        kept = inl (record { tables = tables_of ended.state; sound = sound_after; kept = stays.kept });
        same_files = files;
        same_turns = turns;
        same_reads = reads;
      })

-- ---- A store that isn't opened

module _ {K : Type 0} (members : Ghosts K) (keeper after : K) (tells : Type 0) (old new : OutsideView) (status : ℕ) where
  pub refused_import : RunsRefused members tells keeper after old.door new.door status → new.spool ≡ old.spool → new.moments ≡ old.moments
      → ImportsStore members tells keeper after old new status
  refused_import run spool moments = record {
    honest = record {
      statuses = inr (inr run.honest.statuses);
      fault = λ four. inl (run.honest.fault four, ap (λ (s : SpoolView). s.faults) spool);
      steady = λ other. (run.honest.steady other, ap (λ (s : SpoolView). s.faults) spool);
      keeper_fault = run.honest.keeper_fault;
      told = run.honest.told;
    };
    keeper_steady = λ which. run.leaves.keeper_steady (not_seven status which);
    runs = λ told. inr (λ tell. record { refused = is_refused members keeper after tells old.door new.door status run told tell; same_spool = spool; same_moments = moments; keeper_steady = run.leaves.keeper_steady });
    kept = is_kept_or run.leaves.kept;
    same_files = λ told. ap (λ (s : SpoolView). s.files) spool;
    same_turns = run.same_turns;
    same_reads = run.same_reads;
  }

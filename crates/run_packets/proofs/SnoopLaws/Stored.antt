-- What a run of `snoop` promises where a desk is opened, and where none is.
use Rattle.std.proofs.Common.{◌≡◌, ◌≢◌, ℕ, ◌⊎◌, inl, inr, sym, ap₂, subst, ◌∙◌, arith}
use Rattle.mud_world.specs.declared.keeper.Keeper.{Ghosts}
use Rattle.mud_world.specs.Kept.{faults_of, Tells, kept_items}
use Rattle.mud_world.specs.Causes.{EndsAtFailure, Rose}
use Rattle.mud_world.specs.View.{DoorView}
use Rattle.desk_model.specs.DeskTables.{IsSound}
use Rattle.desk_model.specs.Keeping.{KeepsDesk}
use Rattle.desk_model.specs.Sessions.{Session, opened}
use Rattle.mud_desk.specs.DeskState.{session_of, tables_of}
use Rattle.mud_desk.specs.declared.desk.Desk.{Desk}
use Rattle.mud_desk.specs.Stays.{StaysKept}
use Rattle.run_desk.proofs.Refusals.{RunsRefused, is_refused, reads_honestly}
use Rattle.run_desk.proofs.Stores.{is_kept_or, not_seven}
use Rattle.run_packets.specs.Snoop.Runs.{Scene, scene, SnoopsAll, SnoopsPart, SnoopsTaken}
use Rattle.run_packets.specs.Snoop.Store.{SnoopsStore}

-- ---- Statuses

abbrev pub IsOfSnoop : ℕ → Type 0
IsOfSnoop status = (status ≡ 0) ⊎ ((status ≡ 3) ⊎ ((status ≡ 4) ⊎ ((status ≡ 5) ⊎ (status ≡ 7))))

of_snoop : (status : ℕ) → IsOfSnoop status → (status ≡ 0) ⊎ ((status ≡ 3) ⊎ ((status ≡ 4) ⊎ ((status ≡ 5) ⊎ ((status ≡ 6) ⊎ (status ≡ 7)))))
of_snoop status (inl zero) = inl zero
of_snoop status (inr (inl three)) = inr (inl three)
of_snoop status (inr (inr (inl four))) = inr (inr (inl four))
of_snoop status (inr (inr (inr (inl five)))) = inr (inr (inr (inl five)))
of_snoop status (inr (inr (inr (inr seven)))) = inr (inr (inr (inr (inr seven))))

not_six : (status : ℕ) → IsOfSnoop status → (status ≡ 0) ⊎ ((status ≡ 3) ⊎ (status ≡ 6)) → (status ≡ 0) ⊎ (status ≡ 3)
not_six status is (inl zero) = inl zero
not_six status is (inr (inl three)) = inr three
not_six status is (inr (inr six)) = absurd (grind arith)

-- ---- A desk that was opened

module _ {K : Type 0} (members : Ghosts K) (keeper : K) (tells : Type 0) (old new : DoorView) (status : ℕ) where
  pub snooped_run : (desk ended : Desk K)
      → (Tells members keeper → Tells members desk.keeper → KeepsDesk (kept_items members keeper) (tables_of desk.state))
      → IsSound (tables_of desk.state) → session_of desk.state ≡ opened (tables_of desk.state) → faults_of members desk.keeper ≡ faults_of members keeper → (Tells members desk.keeper → Tells members keeper)
      → StaysKept members desk ended → IsSound (tables_of ended.state)
      → IsOfSnoop status
      → (status ≡ 4 → EndsAtFailure new.failed old.reads new.reads old.writes new.writes)
      → (status ≢ 4 → (new.reads ≡ old.reads) × (new.writes ≡ old.writes))
      → (status ≡ 7 → Rose (faults_of members desk.keeper) (faults_of members ended.keeper))
      → ((status ≡ 0) ⊎ (status ≡ 3) → faults_of members ended.keeper ≡ faults_of members desk.keeper)
      → (tells → (status ≡ 0) ⊎ ((status ≡ 3) ⊎ (status ≡ 7)) → SnoopsAll (scene (session_of desk.state) old.state (faults_of members desk.keeper)) (scene (session_of ended.state) new.state (faults_of members ended.keeper)) status)
      → (tells → (status ≡ 4) ⊎ (status ≡ 5) → SnoopsPart (scene (session_of desk.state) old.state (faults_of members desk.keeper)) (scene (session_of ended.state) new.state (faults_of members ended.keeper)))
      → (tells → new.reads ≢ old.reads → SnoopsTaken (scene (session_of desk.state) old.state (faults_of members desk.keeper)) (scene (session_of ended.state) new.state (faults_of members ended.keeper)))
      → new.turns ≡ old.turns
      → (returned : K) → returned ≡ ended.keeper → SnoopsStore members tells keeper returned old new status
  unfolding session_of
  snooped_run desk ended read sound begins same_count back stays sound_after is fault steady failed unfailed all part taken turns returned same =
      let last = scene (session_of ended.state) new.state (faults_of members ended.keeper) in
      let first : scene (session_of desk.state) old.state (faults_of members desk.keeper) ≡ scene (opened (tables_of desk.state)) old.state (faults_of members keeper) =
      ap₂ (λ (s : Session) (n : ℕ). scene s old.state n) begins same_count in
      subst (λ (it : K). SnoopsStore members tells keeper it old new status) (sym same) (record {
        honest = record {
          statuses = of_snoop status is;
          fault = fault;
          steady = steady;
          keeper_fault = λ seven. subst (λ (n : ℕ). Rose n (faults_of members ended.keeper)) same_count (failed seven);
          told = λ now. back (stays.told now);
        };
        keeper_steady = λ which. unfailed (not_six status is which) ∙ same_count;
        runs = λ told. inl (record {
          tables = tables_of desk.state;
          sound = sound;
          were_kept = λ before now. read before (stays.told now);
          snoops = record {
            statuses = is;
            all = λ which. record {
              session = session_of ended.state;
              are_kept = stays.kept;
              scene_is = subst (λ (a : Scene). SnoopsAll a last status) first (all told which);
            };
            part = λ which. record {
              session = session_of ended.state;
              are_kept = stays.kept;
              scene_is = subst (λ (a : Scene). SnoopsPart a last) first (part told which);
            };
            taken = λ other. record {
              session = session_of ended.state;
              are_kept = stays.kept;
              scene_is = subst (λ (a : Scene). SnoopsTaken a last) first (taken told other);
            };
          };
        });
        kept = inl (record { tables = tables_of ended.state; sound = sound_after; kept = stays.kept });
        same_turns = turns;
      })

-- ---- A store that isn't opened

module _ {K : Type 0} (members : Ghosts K) (keeper after : K) (tells : Type 0) (old new : DoorView) (status : ℕ) where
  pub refused_snoop : RunsRefused members tells keeper after old new status → SnoopsStore members tells keeper after old new status
  refused_snoop run = record {
    honest = reads_honestly members keeper after old new status run.honest run.same_reads;
    keeper_steady = λ which. run.leaves.keeper_steady (not_seven status which);
    runs = λ told. inr (λ tell. record {
      refused = is_refused members keeper after tells old new status run told tell;
      same_reads = run.same_reads;
      keeper_steady = run.leaves.keeper_steady;
    });
    kept = is_kept_or run.leaves.kept;
    same_turns = run.same_turns;
  }

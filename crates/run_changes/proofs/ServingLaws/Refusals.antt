-- What is done where no connection is served.
use Rattle.std.proofs.Common.{◌≡◌, ℕ, Bool, inl, inr, List, [], refl, sym, subst, arith}
use Rattle.mud_world.specs.declared.keeper.Keeper.{Ghosts}
use Rattle.mud_world.specs.declared.item.Item.{Item}
use Rattle.mud_world.specs.Kept.{faults_of, Tells, kept_items, Rests}
use Rattle.mud_world.specs.Causes.{Rose, StopsAtFailure}
use Rattle.mud_world.specs.View.{DoorView}
use Rattle.mud_world.proofs.Doors.{put_out_none}
use Rattle.desk_model.specs.DeskTables.{DeskTables, IsSound}
use Rattle.desk_model.specs.Keeping.{KeepsDesk}
use Rattle.desk_model.specs.Kept.{IsKept}
use Rattle.run_desk.specs.Refused.{RefusesStore}
use Rattle.run_desk.proofs.Refusals.{RunsRefused}
use Rattle.run_desk.proofs.Stores.{leaves_opened}
use Rattle.run_changes.specs.Serving.Store.{ServesNone}

-- a failure at which a run stopped was counted
pub rose_at_failure : (has_failed : Bool) (before now : ℕ) → StopsAtFailure has_failed before now → Rose before now
rose_at_failure has_failed before now stop = omega (arith, stop.once)

module _ {K : Type 0} (members : Ghosts K) (keeper after : K) (tells : Type 0) where
  -- the store was refused
  pub refused_none : (old new : DoorView) (status : ℕ) → RunsRefused members tells keeper after old new status → ServesNone members tells keeper after old new status
  refused_none old new status run = record {
    honest = run.honest;
    same_turns = run.same_turns;
    same_reads = run.same_reads;
    says = run.refuses;
    only_writes = λ told. record { text = (run.wrote told).0; wrote = (run.wrote told).1 };
    leaves = run.leaves;
  }

  -- a desk was opened, and there was no memory to serve with
  pub memory_none : (view : DoorView) (tables : DeskTables)
      → (Tells members keeper → Tells members after → KeepsDesk (kept_items members keeper) tables)
      → IsSound tables → IsKept members after tables → faults_of members after ≡ faults_of members keeper
      → (Tells members after → Tells members keeper) → Rests members after
      → (returned : K) → returned ≡ after → ServesNone members tells keeper returned view view 5
  memory_none view tables read sound kept same_count back rests returned same =
      subst (λ (it : K). ServesNone members tells keeper it view view 5) (sym same) (record {
        honest = record {
          statuses = inr (inl refl);
          fault = λ four. absurd (omega (arith, four));
          steady = λ other. refl;
          keeper_fault = λ seven. absurd (omega (arith, seven));
          told = back;
        };
        same_turns = refl;
        same_reads = refl;
        says = λ told tell. nothing_said (kept_items members after);
        only_writes = λ told. record { text = []; wrote = sym (put_out_none view.state) };
        leaves = leaves_opened members keeper after 5 tables rests read sound kept same_count (λ six. absurd (omega (arith, six)));
      })
    where
      nothing_said : (items : List Item) → RefusesStore items view.state view.state 5
      nothing_said items = record {
        statuses = inr (inl refl);
        done = λ six. absurd (omega (arith, six));
        part = λ four. absurd (omega (arith, four));
        wanting = λ five. inl refl;
        none = λ seven. refl;
      }

-- What a run over a store comes to whose items keep a desk.
use Rattle.std.proofs.Common.{◌≡◌, ◌≢◌, ℕ, ◌⊎◌, inl, inr, List, sym, subst, arith}
use Rattle.mud_world.specs.declared.keeper.Keeper.{Ghosts}
use Rattle.mud_world.specs.declared.item.Item.{Item}
use Rattle.mud_world.specs.Kept.{faults_of, Tells, kept_items, Rests}
use Rattle.read_buffer.specs.Packets.{Packet}
use Rattle.run_captures.specs.Capture.{WritesTaken}
use Rattle.run_captures.specs.Fold.{LineStep}
use Rattle.run_common.specs.Output.{Output, WritesOutput, WritesPart}
use Rattle.mud_world.specs.View.{DoorView}
use Rattle.desk_model.specs.DeskTables.{DeskTables, IsSound}
use Rattle.desk_model.specs.Keeping.{KeepsDesk}
use Rattle.desk_model.proofs.Keeping.{keeps_own}
use Rattle.desk_model.specs.Kept.{IsKept}
use Rattle.run_desk.specs.Store.{LeavesStore, WritesByTables}

-- ---- Statuses

abbrev pub IsOfCapture : ℕ → Type 0
IsOfCapture status = (status ≡ 0) ⊎ ((status ≡ 3) ⊎ ((status ≡ 4) ⊎ (status ≡ 5)))

pub no_six : {A : Type 0} (status : ℕ) → IsOfCapture status → status ≡ 6 → A
no_six status is six = absurd (grind arith)

pub no_seven : {A : Type 0} (status : ℕ) → IsOfCapture status → status ≡ 7 → A
no_seven status is seven = absurd (grind arith)

abbrev pub IsOfRefusal : ℕ → Type 0
IsOfRefusal status = (status ≡ 4) ⊎ ((status ≡ 5) ⊎ ((status ≡ 6) ⊎ (status ≡ 7)))

pub not_seven : (status : ℕ) → (status ≡ 0) ⊎ ((status ≡ 3) ⊎ (status ≡ 6)) → status ≢ 7
not_seven status (inl zero) = λ seven. absurd (grind arith)
not_seven status (inr (inl three)) = λ seven. absurd (grind arith)
not_seven status (inr (inr six)) = λ seven. absurd (grind arith)

-- ---- What is written

module _ {S : Type 0} (output : DeskTables → List ℕ → Output) (step : S → Packet → LineStep S) (from : DeskTables → S) where
  pub writes_opened : (tables : DeskTables) (old new : DoorView) (status : ℕ) → IsOfCapture status
      → ((status ≡ 0) ⊎ (status ≡ 3) → WritesOutput (output tables old.state.left) old.state new.state status)
      → ((status ≡ 4) ⊎ (status ≡ 5) → WritesPart (output tables old.state.left) old.state new.state)
      → (new.reads ≢ old.reads → WritesTaken step (from tables) old.state new.state)
      → WritesByTables output step from old new status tables
  writes_opened tables old new status is done part gone = record { good = λ six. no_six status is six; done = done; part = part; read = gone }

-- ---- What is kept

-- without what is said beside it
pub is_kept_or : {A B C : Type 0} → (A × B) ⊎ C → A ⊎ C
is_kept_or (inl (kept, rests)) = inl kept
is_kept_or (inr other) = inr other

module _ {K : Type 0} (members : Ghosts K) (keeper : K) where
  pub keeps_tables : (desk : DeskTables) → IsSound desk → IsKept members keeper desk → Tells members keeper → KeepsDesk (kept_items members keeper) desk
  keeps_tables desk sound kept tells = subst (λ (items : List Item). KeepsDesk items desk) (sym (kept.items tells)) (keeps_own desk sound)

module _ {K : Type 0} (members : Ghosts K) (keeper after : K) (status : ℕ) where
  -- a desk was opened, and nothing was asked of its keeper
  pub leaves_opened : (tables : DeskTables) → Rests members after
      → (Tells members keeper → Tells members after → KeepsDesk (kept_items members keeper) tables)
      → IsSound tables → IsKept members after tables → faults_of members after ≡ faults_of members keeper → status ≢ 6
      → LeavesStore members keeper after status
  leaves_opened tables rests read sound kept same_count other = record {
    keeper_steady = λ unfailed. same_count;
    same = λ before now. inr (tables, read before now, keeps_tables members after tables sound kept now);
    same_items = λ six before now. absurd (other six);
    kept = inl (record { tables = tables; sound = sound; kept = kept }, rests);
  }

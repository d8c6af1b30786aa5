use Rattle.std.proofs.Common.{◌≡◌, ℕ, ◌+◌, ◌*◌, ◌^◌, ◌<◌, ◌≤◌, length, drop}
use Rattle.std.specs.Prelude.{flat_map}
use Rattle.acl_rows.specs.Rows.{holders_from}
use Rattle.acl_changes.specs.Touched.{holder_touches, binding_touches}
use Rattle.acl_changes.specs.Change.{more_edits}
use Rattle.acl_changes.specs.Policies.{AllHeld}
use Rattle.acl_changes.specs.Steps.{least_steps, HolderFits}
use Rattle.acl_changes.proofs.change.Change.binding_edits.Given as goal

abbrev pub invariant-loop-slot : goal.invariant-loop-slot
invariant-loop-slot g l = record {
  number : l.n ≡ l.slot-index;
  edits : more_edits l.self (binding_touches l.slots l.binding) l.initial.edits.rows ≡ more_edits l.self (flat_map (holder_touches l.binding.key l.binding.addr) (holders_from l.slot-index (drop l.slot-index l.slots))) l.edits.rows;
  read : l.initial.steps + least_steps l.self.rows (binding_touches l.slots l.binding) ≤ l.steps + least_steps l.self.rows (flat_map (holder_touches l.binding.key l.binding.addr) (holders_from l.slot-index (drop l.slot-index l.slots)));
  up : l.initial.steps ≤ l.steps;
  most : (b k u : ℕ) → length l.self.bindings < 2 ^ b → length l.self.rows < 2 ^ k → AllHeld l.slots (λ h. HolderFits h b k u) → l.steps + length (flat_map (holder_touches l.binding.key l.binding.addr) (holders_from l.slot-index (drop l.slot-index l.slots))) * u ≤ l.initial.steps + length (binding_touches l.slots l.binding) * u;
}

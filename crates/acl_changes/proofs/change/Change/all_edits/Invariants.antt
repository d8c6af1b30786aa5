use Rattle.std.proofs.Common.{◌≡◌, ℕ, ◌+◌, ◌*◌, ◌^◌, ◌<◌, ◌≤◌, length, drop}
use Rattle.acl_changes.specs.Touched.{touches}
use Rattle.acl_changes.specs.Change.{more_edits}
use Rattle.acl_changes.specs.Policies.{AllHeld}
use Rattle.acl_changes.specs.Steps.{least_steps, HolderFits}
use Rattle.acl_changes.proofs.change.Change.all_edits.Given as goal

abbrev pub invariant-loop-binding : goal.invariant-loop-binding
invariant-loop-binding g l = record {
  edits : more_edits l.self (touches l.self.slots l.changed) l.initial.edits.rows ≡ more_edits l.self (touches l.self.slots (drop l.binding-index l.changed)) l.edits.rows;
  read : l.initial.steps + least_steps l.self.rows (touches l.self.slots l.changed) ≤ l.steps + least_steps l.self.rows (touches l.self.slots (drop l.binding-index l.changed));
  up : l.initial.steps ≤ l.steps;
  most : (b k u : ℕ) → length l.self.bindings < 2 ^ b → length l.self.rows < 2 ^ k → AllHeld l.self.slots (λ h. HolderFits h b k u) → l.steps + length (touches l.self.slots (drop l.binding-index l.changed)) * u ≤ l.initial.steps + length (touches l.self.slots l.changed) * u;
}

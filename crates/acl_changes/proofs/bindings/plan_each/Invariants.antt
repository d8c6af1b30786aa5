use Rattle.std.proofs.Common.{◌≡◌, ℕ, ◌+◌, ◌*◌, ◌^◌, ◌<◌, ◌≤◌, length, map, drop}
use Rattle.base_rows.specs.Sortable.{set_rows}
use Rattle.acl_model.specs.SortKeys.{binding_sort_key}
use Rattle.base_rows.specs.Edits.{edit_sort_key}
use Rattle.acl_changes.specs.Bindings.{binding_edit}
use Rattle.acl_changes.specs.Steps.{least_looks}
use Rattle.acl_changes.proofs.bindings.plan_each.Given as goal

abbrev pub invariant-loop-binding : goal.invariant-loop-binding
invariant-loop-binding g l = record {
  edits : set_rows (edit_sort_key binding_sort_key) (map (binding_edit l.bindings.rows l.comes) l.changed) l.initial.edits.rows ≡ set_rows (edit_sort_key binding_sort_key) (map (binding_edit l.bindings.rows l.comes) (drop l.binding-index l.changed)) l.edits.rows;
  looked : l.initial.steps + least_looks l.bindings.rows l.changed ≤ l.steps + least_looks l.bindings.rows (drop l.binding-index l.changed);
  up : l.initial.steps ≤ l.steps;
  most : (b : ℕ) → length l.bindings.rows < 2 ^ b → l.steps ≤ l.initial.steps + l.binding-index * b;
}

use Rattle.std.proofs.Common.{◌≡◌, ℕ, ◌+◌, ◌*◌, ◌^◌, ◌<◌, ◌≤◌, Some, map, drop, length}
use Rattle.acl_rows.specs.Rows.{Slots, held_by, member_keys}
use Rattle.acl_changes.specs.PolicyTouched.{bound_key}
use Rattle.acl_changes.specs.Fresh.{more_fresh}
use Rattle.acl_changes.proofs.change.Change.bound_fresh.Given as goal

abbrev pub invariant-loop-binding : goal.invariant-loop-binding
invariant-loop-binding g l = record {
  fresh : (new : Slots) → held_by new l.holding.0 ≡ Some l.holding.1 → more_fresh l.self.slots l.self.bindings new (map (bound_key l.holding.0 l.side l.n) l.bound) l.initial.fresh ≡ more_fresh l.self.slots l.self.bindings new (map (bound_key l.holding.0 l.side l.n) (drop l.binding-index l.bound)) l.fresh;
  up : l.initial.steps ≤ l.steps;
  most : (b k u : ℕ) → length l.self.bindings < 2 ^ b → length l.self.rows < 2 ^ k → length (member_keys l.holding.1.url l.entry) * b + k ≤ u → l.steps ≤ l.initial.steps + l.binding-index * u;
}

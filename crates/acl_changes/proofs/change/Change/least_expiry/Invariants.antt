use Rattle.std.proofs.Common.{◌≡◌, ℕ, ◌+◌, ◌*◌, ◌^◌, ◌<◌, ◌≤◌, length, drop}
use Rattle.std.specs.List.{filter_map}
use Rattle.acl_model.specs.Keys.{key_of}
use Rattle.acl_rows.specs.Rows.{least_expiry}
use Rattle.acl_changes.specs.Change.{after}
use Rattle.acl_changes.specs.Steps.{key_looks}
use Rattle.acl_changes.proofs.change.Change.least_expiry.Given as goal

abbrev pub invariant-loop-selector : goal.invariant-loop-selector
invariant-loop-selector g l = record {
  same : least_expiry (after l.self) l.addr l.fn.first (filter_map (key_of l.url) l.selectors) ≡ least_expiry (after l.self) l.addr l.expiry (filter_map (key_of l.url) (drop l.selector-index l.selectors));
  up : l.initial.steps ≤ l.steps;
  looked : l.initial.steps + key_looks l.self l.addr (filter_map (key_of l.url) l.selectors) ≤ l.steps + key_looks l.self l.addr (filter_map (key_of l.url) (drop l.selector-index l.selectors));
  most : (b : ℕ) → length l.self.bindings < 2 ^ b → l.steps + length (filter_map (key_of l.url) (drop l.selector-index l.selectors)) * b ≤ l.initial.steps + length (filter_map (key_of l.url) l.selectors) * b;
}

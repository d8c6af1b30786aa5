use Rattle.std.proofs.Common.{◌≡◌, ℕ, ◌+◌, ◌*◌, ◌^◌, ◌<◌, ◌≤◌, length, map, drop}
use Rattle.acl_changes.specs.Change.{more_edits}
use Rattle.acl_changes.specs.Steps.{least_steps, HolderFits}
use Rattle.acl_changes.proofs.SpotTouches.{spot_key}
use Rattle.acl_changes.proofs.change.Change.holder_edits.Given as goal

abbrev pub invariant-loop-spot : goal.invariant-loop-spot
invariant-loop-spot g l = record {
  edits : more_edits l.self (map (spot_key l.holding.0 l.addr) (drop l.spot-index l.spots)) l.edits.rows ≡ more_edits l.self (map (spot_key l.holding.0 l.addr) l.spots) l.initial.edits.rows;
  read : l.initial.steps + least_steps l.self.rows (map (spot_key l.holding.0 l.addr) l.spots) ≤ l.steps + least_steps l.self.rows (map (spot_key l.holding.0 l.addr) (drop l.spot-index l.spots));
  up : l.initial.steps ≤ l.steps;
  most : (b k u : ℕ) → length l.self.bindings < 2 ^ b → length l.self.rows < 2 ^ k → HolderFits l.holding b k u → l.steps + length (map (spot_key l.holding.0 l.addr) (drop l.spot-index l.spots)) * u ≤ l.initial.steps + length (map (spot_key l.holding.0 l.addr) l.spots) * u;
}

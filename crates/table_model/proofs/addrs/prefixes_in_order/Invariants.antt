use Rattle.std.proofs.Common.{◌≡◌, ◌≤◌, length, drop}
use Rattle.table_model.specs.Binds.{prefixes_in_order}
use Rattle.table_model.proofs.addrs.prefixes_in_order.Given as goal

abbrev pub invariant-loop-at : goal.invariant-loop-at
invariant-loop-at l = (l.at ≤ length l.prefixes) × (l.sorted.items ≡ prefixes_in_order (drop l.at l.prefixes))

abbrev pub decreases-loop-at : goal.decreases-loop-at
decreases-loop-at l = l.at

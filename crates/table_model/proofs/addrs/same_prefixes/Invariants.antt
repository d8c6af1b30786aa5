use Rattle.std.proofs.Common.{◌≡◌, ◌≤◌, true, length, drop}
use Rattle.table_model.specs.Binds.{same_prefixes}
use Rattle.table_model.proofs.addrs.same_prefixes.Given as goal

abbrev pub invariant-loop-at : goal.invariant-loop-at
invariant-loop-at l = (l.at ≤ length l.first) × (same_prefixes (drop l.at l.first) (drop l.at l.second) ≡ true)

abbrev pub decreases-loop-at : goal.decreases-loop-at
decreases-loop-at l = l.at

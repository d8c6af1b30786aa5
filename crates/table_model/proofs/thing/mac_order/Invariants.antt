use Rattle.std.proofs.Common.{◌-◌, ◌≡◌, ◌≤◌, drop}
use Rattle.base_rows.specs.Sortable.{sort_key_cmp}
use Rattle.table_model.proofs.thing.mac_order.Given as goal

-- the octets before are the same, so those left decide
abbrev pub invariant-loop-n : goal.invariant-loop-n
invariant-loop-n l = (l.n ≤ 6) × (sort_key_cmp (drop l.n l.own.0) (drop l.n l.other.0) ≡ sort_key_cmp l.own.0 l.other.0)

abbrev pub decreases-loop-n : goal.decreases-loop-n
decreases-loop-n l = 6 - l.n

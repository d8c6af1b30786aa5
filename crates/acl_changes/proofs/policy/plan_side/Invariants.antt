use Rattle.std.proofs.Common.{◌≡◌}
use Rattle.std.specs.List.{AllByRecursion}
use Rattle.base_rows.specs.Sortable.{RowsAndRoom}
use Rattle.acl_rows.specs.declared.row.Row.{Row}
use Rattle.acl_rows.specs.View.{rows_of_side}
use Rattle.acl_changes.specs.Fresh.{AreOfPeer, left_edits}
use Rattle.acl_changes.proofs.Groups.{rows_in}
use Rattle.acl_changes.proofs.policy.plan_side.Given as goal

-- the groups that are left
abbrev pub invariant-loop-group : goal.invariant-loop-group
invariant-loop-group g l = record {
  rows : l.fresh.rows ≡ l.fn.fresh.rows;
  peers : AllByRecursion (λ (x : RowsAndRoom Row). AreOfPeer x.rows l.fn.rows.rows) l.group-iterator;
  edits : left_edits l.fn.rows.rows l.fn.fresh.rows (rows_of_side l.fn.owner l.fn.side l.fn.rows.rows) l.fn.fresh.edits ≡ left_edits l.fn.rows.rows l.fn.fresh.rows (rows_in l.group-iterator) l.fresh.edits;
}

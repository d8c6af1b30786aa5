use Rattle.std.proofs.Common.{◌≡◌, List, drop}
use Rattle.acl_rows.specs.declared.row.Row.{Row}
use Rattle.acl_changes.specs.Fresh.{AreOfPeer, left_edits}
use Rattle.acl_changes.proofs.fresh.plan_left.Given as goal

abbrev pub invariant-loop-row : goal.invariant-loop-row
invariant-loop-row l = record {
  index : l.index ≡ l.row-index;
  rows : l.fresh-inside.rows.rows ≡ l.fn.fresh.rows;
  edits : (all : List Row) → AreOfPeer l.own all → left_edits all l.fn.fresh.rows l.own l.fn.fresh.edits ≡ left_edits all l.fn.fresh.rows (drop l.row-index l.own) l.fresh-inside.edits.rows;
}

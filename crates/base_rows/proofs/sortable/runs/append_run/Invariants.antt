use Rattle.std.proofs.Common.{◌≡◌, ◌+◌, ◌≤◌, ◌++◌, map, take, drop, reverse}
use Rattle.base_rows.proofs.sortable.runs.append_run.Given as goal

abbrev pub invariant-loop-rows : goal.invariant-loop-rows
invariant-loop-rows g l = record {
  first : l.first ≤ l.held.len;
  fewer : l.held.len ≤ l.initial.held.len;
  held : l.held.items ≡ take l.held.len l.initial.held.items;
  rows : l.rows.items ≡ l.initial.rows.items ++ reverse (map g.E.HoldsRow.row_of (drop l.held.len l.initial.held.items));
  len : l.rows.len + l.held.len ≡ l.initial.rows.len + l.initial.held.len;
  capacity : l.rows.cap ≡ l.initial.rows.cap;
  held_capacity : l.held.cap ≡ l.initial.held.cap;
}

abbrev pub decreases-loop-rows : goal.decreases-loop-rows
decreases-loop-rows g l = goal.left-loop-rows g l

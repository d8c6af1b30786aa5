use Rattle.std.proofs.Common.{◌≡◌, ◌+◌, ◌≤◌, ◌++◌, vec_len, vec_capacity}
use mathlib.Core.List.{reverse}
use Rattle.base_rows.proofs.sortable.merge.move_back.Given as goal

abbrev pub invariant-loop-row : goal.invariant-loop-row
invariant-loop-row g l = record {
  items : l.rows.items ++ reverse l.moved.items ≡ l.initial.rows.items ++ reverse l.fn.moved.items;
  room : vec_len l.rows + vec_len l.moved ≤ vec_capacity l.rows;
  capacity : vec_capacity l.rows ≡ vec_capacity l.initial.rows;
}

abbrev pub decreases-loop-row : goal.decreases-loop-row
decreases-loop-row g l = vec_len l.moved

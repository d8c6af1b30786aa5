use Rattle.std.proofs.Common.{◌≡◌, ◌+◌, ◌≤◌, ◌++◌, vec_len, vec_capacity}
use mathlib.Core.List.{reverse}
use Rattle.base_rows.specs.Sortable.{SortKeysAscend, set_rows}
use Rattle.base_rows.proofs.sortable.merge.move_behind.Given as goal

abbrev pub invariant-loop-rows : goal.invariant-loop-rows
invariant-loop-rows g l = record {
  rows : set_rows g.R.Sortable.sort_key l.more.items l.rows.items ++ reverse l.moved.items ≡ set_rows g.R.Sortable.sort_key l.fn.more.items l.initial.rows.items;
  ascend : SortKeysAscend g.R.Sortable.sort_key l.rows.items;
  more : SortKeysAscend g.R.Sortable.sort_key l.more.items;
  room : vec_len l.rows + vec_len l.more + vec_len l.moved ≤ vec_len l.initial.rows + vec_len l.fn.more;
  moved : vec_capacity l.moved ≡ vec_capacity l.initial.moved;
  capacity : vec_capacity l.rows ≡ vec_capacity l.initial.rows;
}

abbrev pub decreases-loop-rows : goal.decreases-loop-rows
decreases-loop-rows g l = vec_len l.rows + vec_len l.more

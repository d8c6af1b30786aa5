use Rattle.std.proofs.Common.{◌≡◌, ◌+◌, length}
use Rattle.base_rows.specs.Edits.{edited}
use Rattle.acl_rows.specs.SortKeys.{row_sort_key}
use Rattle.acl_buckets.specs.RowBuckets.{AreFoundBeside, HasRoom}
use Rattle.acl_buckets.specs.RowParts.{joined, room_in, limits_in, AreSorted}
use Rattle.acl_buckets.proofs.row_parts.make_all.Given as goal

abbrev pub invariant-loop-buckets : goal.invariant-loop-buckets
invariant-loop-buckets g l = record {
  sorted : AreSorted l.buckets.items;
  rows : edited row_sort_key l.left.rows (joined l.buckets.items) ≡ edited row_sort_key l.fn.edits.rows (joined l.initial.buckets.items);
  limits : limits_in l.buckets.items ≡ limits_in l.initial.buckets.items;
  found : AreFoundBeside (joined l.buckets.items) l.left.rows;
  room : HasRoom l.left.rows (room_in l.buckets.items);
  counted : l.steps + length l.left.rows ≡ l.initial.steps + length l.fn.edits.rows;
}

abbrev pub decreases-loop-buckets : goal.decreases-loop-buckets
decreases-loop-buckets g l = length l.left.rows

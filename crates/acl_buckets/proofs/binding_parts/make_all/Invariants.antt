use Rattle.std.proofs.Common.{◌≡◌, ◌+◌, length}
use Rattle.acl_model.specs.SortKeys.{binding_sort_key}
use Rattle.base_rows.specs.Edits.{edited}
use Rattle.acl_buckets.specs.BindingBuckets.{HasRoomByKey}
use Rattle.acl_buckets.specs.BindingParts.{joined, room_in, AreBucketed, AreFoundIn}
use Rattle.acl_buckets.proofs.binding_parts.make_all.Given as goal

abbrev pub invariant-loop-left : goal.invariant-loop-left
invariant-loop-left g l = record {
  bucketed : AreBucketed l.buckets.items;
  rows : edited binding_sort_key l.left.rows (joined l.buckets.items) ≡ edited binding_sort_key l.fn.edits.rows (joined l.initial.buckets.items);
  found : AreFoundIn l.buckets.items l.left.rows;
  room : HasRoomByKey l.left.rows (room_in l.buckets.items);
  counted : l.steps + length l.left.rows ≡ l.initial.steps + length l.fn.edits.rows;
}

abbrev pub decreases-loop-left : goal.decreases-loop-left
decreases-loop-left g l = length l.left.rows

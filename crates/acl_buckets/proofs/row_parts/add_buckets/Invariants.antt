use Rattle.std.proofs.Common.{◌+◌, ◌-◌}
use Rattle.acl_buckets.specs.RowParts.{AreKept, HaveSameRoom}
use Rattle.acl_buckets.proofs.row_parts.add_buckets.Given as goal

abbrev pub invariant-loop-alloc : goal.invariant-loop-alloc
invariant-loop-alloc l = record {
  kept : AreKept l.initial.buckets.items l.buckets.items;
  same : HaveSameRoom l.initial.buckets.items l.buckets.items;
}

abbrev pub decreases-loop-alloc : goal.decreases-loop-alloc
decreases-loop-alloc l = l.number + 1 - l.buckets.len

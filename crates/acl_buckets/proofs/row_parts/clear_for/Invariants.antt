use Rattle.acl_buckets.specs.RowParts.{AreKept}
use Rattle.acl_buckets.proofs.ClearLaws.{AreClearing}
use Rattle.acl_buckets.proofs.row_parts.clear_for.Given as goal

abbrev pub invariant-loop-edit : goal.invariant-loop-edit
invariant-loop-edit l = record {
  kept : AreKept l.initial.buckets.items l.buckets.items;
  clearing : AreClearing l.edits.rows l.initial.buckets.items l.buckets.items l.edit-index l.visited;
}

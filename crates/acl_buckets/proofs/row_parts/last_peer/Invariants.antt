use Rattle.std.proofs.Common.{◌<◌, length, drop}
use Rattle.std.specs.List.{AllByRecursion}
use Rattle.acl_rows.specs.ByAddress.{IsEditAt}
use Rattle.acl_buckets.proofs.row_parts.last_peer.Given as goal

abbrev pub invariant-loop-start : goal.invariant-loop-start
invariant-loop-start l = record {
  end : l.start < length l.edits;
  own : AllByRecursion (IsEditAt l.peer.owner l.peer.side l.peer.addr) (drop l.start l.edits);
}

abbrev pub decreases-loop-start : goal.decreases-loop-start
decreases-loop-start l = l.start

use Rattle.std.proofs.Common.{◌≡◌, ◌+◌, length}
use Rattle.acl_rows.proofs.GroupLaws.{rows_together}
use Rattle.acl_rows.specs.ByAddress.{grouped}
use Rattle.acl_rows.proofs.groups.count_groups.Given as goal

abbrev pub invariant-loop-group : goal.invariant-loop-group
invariant-loop-group g l = l.steps + length (rows_together l.group-iterator) ≡ l.fn.steps + length (grouped l.fn.groups.entries)

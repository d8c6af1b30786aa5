use Rattle.std.proofs.Common.{List, ◌+◌, length, ap, subst, ◌∙◌}
use Rattle.acl_rows.specs.declared.row.Row.{Row}
use Rattle.acl_rows.specs.ByAddress.{AreGroups}
use Rattle.acl_buckets.proofs.rows.RowBuckets.all_rows.Goals as goal

pub returns-clause-groups : goal.returns-clause-groups
returns-clause-groups g c = subst (AreGroups c.all_rows.result.now.entries) c.bucket.ensures.rows c.all_rows.ensures.groups

pub returns-clause-counted : goal.returns-clause-counted
returns-clause-counted g c = c.all_rows.ensures.counted ∙ ap (λ (rows : List Row). c.args.steps.now + length rows) c.bucket.ensures.rows

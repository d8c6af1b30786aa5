use Rattle.std.proofs.Common.{List, length, ap, ◌∙◌}
use Rattle.acl_rows.specs.declared.row.Row.{Row}
use Rattle.acl_rows.specs.View.{part}
use Rattle.acl_buckets.proofs.rows.RowBuckets.part.Goals as goal

pub returns : goal.returns
returns c = c.new.ensures ∙ ap (λ (rows : List Row). part c.args.side c.args.entries.now c.args.wide.now rows (length rows)) c.bucket.ensures.rows

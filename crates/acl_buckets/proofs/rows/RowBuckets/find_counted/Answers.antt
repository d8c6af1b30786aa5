use Rattle.std.proofs.Common.{length, ap, ◌∙◌, arith}
use Rattle.base_rows.specs.Sortable.{index_in}
use Rattle.acl_rows.specs.SortKeys.{row_sort_key, named_sort_key}
use Rattle.acl_rows.specs.ByAddress.{index_beside, until_of_row}
use Rattle.acl_buckets.proofs.Beside.{bucket_at, until_of_peer}
use Rattle.acl_buckets.proofs.rows.RowBuckets.find_counted.Goals as goal

pub returns-clause-index : goal.returns-clause-index
unfolding index_beside
returns-clause-index g c =
    let key = c.args.key.now in
    c.find_counted.ensures.index ∙ ap (index_in row_sort_key (named_sort_key key)) (bucket_at key.owner key.side key.addr c.bucket.result.now.rows c.args.self.now.rows c.bucket.ensures.rows)

pub returns-clause-until : goal.returns-clause-until
returns-clause-until g c =
    let key = c.args.key.now in
    c.find_counted.ensures.until
    ∙ ap (until_of_row (named_sort_key key)) (bucket_at key.owner key.side key.addr c.bucket.result.now.rows c.args.self.now.rows c.bucket.ensures.rows)
    ∙ until_of_peer key c.args.self.now.rows

pub returns-clause-least : goal.returns-clause-least
returns-clause-least g c =
    let key = c.args.key.now in
    let is = ap length (bucket_at key.owner key.side key.addr c.bucket.result.now.rows c.args.self.now.rows c.bucket.ensures.rows) in
    omega (arith, is, c.find_counted.ensures.least)

pub returns-clause-most : goal.returns-clause-most
returns-clause-most g c = λ b fits. c.find_counted.ensures.most b (omega (arith, c.bucket.ensures.few, fits))

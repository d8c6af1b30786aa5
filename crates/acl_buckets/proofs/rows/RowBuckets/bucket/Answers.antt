use Rattle.std.proofs.Common.{◌≡◌, ◌≤◌, length, ap, subst, ◌∙◌}
use Rattle.acl_rows.specs.View.{rows_of_side}
use Rattle.acl_buckets.specs.RowBuckets.{Buckets, bucket_number}
use Rattle.acl_buckets.specs.RowParts.{part_at}
use Rattle.acl_buckets.proofs.RowPartLaws.{side_lent, lent_few}
use Rattle.acl_buckets.proofs.rows.RowBuckets.bucket.Goals as goal

-- what is lent is what stands in the bucket
lent : (c : goal.After-part_of) → c.part_of.result.now.rows ≡ (part_at c.self.inside.buckets.items (bucket_number c.args.owner c.args.side)).rows
lent c = c.part_of.ensures ∙ (λ i. (part_at (c.as_slice.ensures.value i) (c.number_of.ensures.number i)).rows)

pub returns-clause-rows : goal.returns-clause-rows
returns-clause-rows c =
    side_lent c.args.owner c.args.side c.self.inside.buckets.items c.self.inside.none.rows c.part_of.result.now.rows c.self.invariant (lent c)
    ∙ ap (λ (s : Buckets). rows_of_side c.args.owner c.args.side s.rows) c.self.view_is

pub returns-clause-few : goal.returns-clause-few
returns-clause-few c =
    subst (λ (s : Buckets). length c.part_of.result.now.rows ≤ length s.rows) c.self.view_is
    (lent_few c.args.owner c.args.side c.self.inside.buckets.items c.self.inside.none.rows c.part_of.result.now.rows c.self.invariant (lent c))

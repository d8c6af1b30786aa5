use Rattle.acl_buckets.proofs.RowPartLaws.{nothing_bucketed, joined_none}
use Rattle.acl_buckets.proofs.Forgotten.{room_none}
use Rattle.acl_buckets.proofs.rows.RowBuckets.new.Goals as goal

pub invariant_of-result : goal.invariant_of-result
invariant_of-result c = nothing_bucketed c.new.result.items c.new-2.result.rows c.new.ensures.items c.new-2.ensures.rows

pub returns : goal.returns
returns c = record { rows = joined_none c.new.result.items c.new.ensures.items; room = room_none c.new.result.items c.new.ensures.items }

use Rattle.acl_buckets.proofs.BindingPartLaws.{nothing_bucketed, joined_none}
use Rattle.acl_buckets.proofs.KeysCleared.{room_none}
use Rattle.acl_buckets.proofs.bindings.BindingBuckets.new.Goals as goal

pub invariant_of-result : goal.invariant_of-result
invariant_of-result c = nothing_bucketed c.new.result.items c.new-2.result.rows c.new.ensures.items c.new-2.ensures.rows

pub returns-clause-rows : goal.returns-clause-rows
returns-clause-rows c = joined_none c.new.result.items c.new.ensures.items

pub returns-clause-room : goal.returns-clause-room
returns-clause-room c = room_none c.new.result.items c.new.ensures.items

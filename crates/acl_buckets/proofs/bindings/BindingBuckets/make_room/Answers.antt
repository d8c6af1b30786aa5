use Rattle.std.proofs.Common.{subst}
use Rattle.acl_buckets.specs.BindingBuckets.{KeptBindings, AreKeysCleared}
use Rattle.acl_buckets.specs.BindingParts.{joined, room_in}
use Rattle.acl_buckets.proofs.KeysCleared.{keys_view}
use Rattle.acl_buckets.proofs.bindings.BindingBuckets.make_room.Goals as goal

pub returns-clause-cleared : goal.returns-clause-cleared
returns-clause-cleared c =
    let s = c.self.inside in
    let now : KeptBindings = record { rows = joined c.make_room.new.buckets.items; room = room_in c.make_room.new.buckets.items; limit = c.clear_buckets-self-inside.result } in
    subst (λ (k : KeptBindings). AreKeysCleared c.args.edits.now.rows k now) c.self.view_is
    (keys_view c.args.edits.now.rows s.buckets.items c.clear_buckets-self-inside.new.buckets.items c.make_room.new.buckets.items s.limit c.clear_buckets-self-inside.result c.self.invariant.bucketed c.clear_buckets-self-inside.ensures.cleared c.make_room.ensures.most c.make_room.ensures.others)

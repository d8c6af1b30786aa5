use Rattle.std.proofs.Common.{subst}
use Rattle.base_rows.specs.Sortable.{SortKeysAscend}
use Rattle.acl_model.specs.SortKeys.{binding_sort_key}
use Rattle.acl_buckets.specs.BindingBuckets.{KeptBindings}
use Rattle.acl_buckets.proofs.BindingPartLaws.{joined_ascend}
use Rattle.acl_buckets.proofs.bindings.BindingBuckets.tell_order.Goals as goal

pub returns : goal.returns
returns c = subst (λ (k : KeptBindings). SortKeysAscend binding_sort_key k.rows) c.self.view_is (joined_ascend c.self.inside.buckets.items c.self.invariant.bucketed)

use Rattle.std.proofs.Common.{◌≤◌, refl, sym, subst, arith}
use Rattle.std.proofs.lemmas.Result.{on_ok_weaker}
use Rattle.base_rows.specs.Sortable.{RowsAndRoom}
use Rattle.base_rows.proofs.SortableLaws.{found_within}
use Rattle.acl_model.specs.declared.binding.Binding.{Binding}
use Rattle.acl_model.specs.SortKeys.{member_sort_key}
use Rattle.acl_buckets.specs.declared.binding_parts.Bucket.{Bucket}
use Rattle.acl_buckets.specs.BindingParts.{bucket_sort_key}
use Rattle.acl_buckets.proofs.BindingPartLaws.{roomier_twice, roomier_set, set_part, same_key_bucket}
use Rattle.acl_buckets.proofs.KeysAdded.{others_set, others_twice}
use Rattle.acl_buckets.proofs.binding_parts.reserve_bucket.Goals as goal

pub index_mut-requires : goal.index_mut-requires
index_mut-requires c =
    let lt = found_within bucket_sort_key (member_sort_key c.args.key.now) c.add_bucket.new.buckets.items c.in_ok-index.index c.in_ok-index.ensures.ok in
    omega (arith, lt, c.add_bucket.new.buckets.ok.0)

pub returns-clause-kept : goal.returns-clause-kept
returns-clause-kept c =
    let old : Bucket = c.index_mut.result.now in
    let new : Bucket = record { key = old.key; bindings = c.reserve.new.self } in
    let added = c.add_bucket.ensures.kept in
    roomier_twice _ _ _ added (roomier_set (member_sort_key c.args.key.now) c.add_bucket.new.buckets.items c.in_ok-index.index old new added.bucketed c.in_ok-index.ensures.ok c.index_mut.ensures.value (same_key_bucket new old refl) c.reserve.ensures.rows c.reserve.ensures.room)

pub returns-clause-ok : goal.returns-clause-ok
returns-clause-ok c =
    let old : Bucket = c.index_mut.result.now in
    let new : Bucket = record { key = old.key; bindings = c.reserve.new.self } in
    let at = set_part (member_sort_key c.args.key.now) c.add_bucket.new.buckets.items c.in_ok-index.index old new c.add_bucket.ensures.kept.bucketed c.in_ok-index.ensures.ok c.index_mut.ensures.value (same_key_bucket new old refl) in
    on_ok_weaker c.reserve.result (λ few. subst (λ (p : RowsAndRoom Binding). c.args.more ≤ p.room) (sym at) few) c.reserve.ensures.ok

pub returns-clause-others : goal.returns-clause-others
returns-clause-others c =
    let old : Bucket = c.index_mut.result.now in
    let new : Bucket = record { key = old.key; bindings = c.reserve.new.self } in
    let lt = found_within bucket_sort_key (member_sort_key c.args.key.now) c.add_bucket.new.buckets.items c.in_ok-index.index c.in_ok-index.ensures.ok in
    others_twice (member_sort_key c.args.key.now) _ _ _ c.add_bucket.ensures.others (others_set (member_sort_key c.args.key.now) c.add_bucket.new.buckets.items c.in_ok-index.index old new lt c.index_mut.ensures.value (same_key_bucket new old refl))

use Rattle.std.proofs.Common.{sym, ap, subst, ◌∙◌, arith}
use Rattle.base_rows.specs.Sortable.{index_in}
use Rattle.base_rows.proofs.SortableLaws.{missed_within}
use Rattle.acl_model.specs.SortKeys.{member_sort_key}
use Rattle.acl_buckets.specs.declared.binding_parts.Bucket.{Bucket}
use Rattle.acl_buckets.specs.BindingParts.{bucket_sort_key, AreRoomier, HaveOthers}
use Rattle.acl_buckets.proofs.BindingPartLaws.{looked, key_bucket, roomier_insert, index_inserted}
use Rattle.acl_buckets.proofs.KeysAdded.{others_insert}
use Rattle.acl_buckets.proofs.binding_parts.add_bucket.Goals as goal

pub insert-requires : goal.insert-requires
insert-requires c =
    let is = looked c.args.buckets.now.items c.as_slice.result.now c.args.key.now c.key_text.result.kind c.key_text.result.text.now c.bucket_of.result c.as_slice.ensures.value c.key_text.ensures.kind c.key_text.ensures.text c.bucket_of.ensures in
    let le = missed_within bucket_sort_key (member_sort_key c.args.key.now) c.args.buckets.now.items c.in-Err.index (sym is ∙ c.in-Err.is) in
    omega (arith, le, c.args.buckets.now.ok.0)

pub returns-in-Ok-clause-ok : goal.returns-in-Ok-clause-ok
returns-in-Ok-clause-ok c =
    sym (looked c.args.buckets.now.items c.as_slice.result.now c.args.key.now c.key_text.result.kind c.key_text.result.text.now c.bucket_of.result c.as_slice.ensures.value c.key_text.ensures.kind c.key_text.ensures.text c.bucket_of.ensures) ∙ c.in-Ok.is

pub returns-in_ok-insert-in-Err-clause-kept : goal.returns-in_ok-insert-in-Err-clause-kept
returns-in_ok-insert-in-Err-clause-kept c =
    let is = looked c.args.buckets.now.items c.as_slice.result.now c.args.key.now c.key_text.result.kind c.key_text.result.text.now c.bucket_of.result c.as_slice.ensures.value c.key_text.ensures.kind c.key_text.ensures.text c.bucket_of.ensures in
    let bucket : Bucket = record { key = c.in_ok-key-in-Err.key; bindings = c.new-bindings.result } in
    subst (AreRoomier c.args.buckets.now.items) (sym c.in_ok-insert-in-Err.ensures.items)
    (roomier_insert (member_sort_key c.args.key.now) c.args.buckets.now.items c.in-Err.index bucket c.requires (sym is ∙ c.in-Err.is) (key_bucket bucket c.args.key.now c.in_ok-key-in-Err.ensures) c.new-bindings.ensures.rows)

pub returns-in_ok-insert-in-Err-clause-ok : goal.returns-in_ok-insert-in-Err-clause-ok
returns-in_ok-insert-in-Err-clause-ok c =
    let is = looked c.args.buckets.now.items c.as_slice.result.now c.args.key.now c.key_text.result.kind c.key_text.result.text.now c.bucket_of.result c.as_slice.ensures.value c.key_text.ensures.kind c.key_text.ensures.text c.bucket_of.ensures in
    let bucket : Bucket = record { key = c.in_ok-key-in-Err.key; bindings = c.new-bindings.result } in
    ap (index_in bucket_sort_key (member_sort_key c.args.key.now)) c.in_ok-insert-in-Err.ensures.items
    ∙ index_inserted (member_sort_key c.args.key.now) c.args.buckets.now.items c.in-Err.index bucket c.requires (sym is ∙ c.in-Err.is) (key_bucket bucket c.args.key.now c.in_ok-key-in-Err.ensures) c.new-bindings.ensures.rows

pub returns-in_ok-insert-in-Err-clause-others : goal.returns-in_ok-insert-in-Err-clause-others
returns-in_ok-insert-in-Err-clause-others c =
    let bucket : Bucket = record { key = c.in_ok-key-in-Err.key; bindings = c.new-bindings.result } in
    subst (HaveOthers (member_sort_key c.args.key.now) c.args.buckets.now.items) (sym c.in_ok-insert-in-Err.ensures.items)
    (others_insert (member_sort_key c.args.key.now) c.args.buckets.now.items c.in-Err.index bucket (key_bucket bucket c.args.key.now c.in_ok-key-in-Err.ensures))

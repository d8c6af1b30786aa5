use Rattle.std.proofs.Common.{◌≤◌, refl, sym, ap, subst, ◌∙◌, arith}
use Rattle.base_rows.specs.Sortable.{RowsAndRoom, index_in}
use Rattle.base_rows.proofs.SortableLaws.{found_within}
use Rattle.acl_model.specs.declared.binding.Binding.{Binding}
use Rattle.acl_model.specs.SortKeys.{member_sort_key, binding_sort_key}
use Rattle.acl_buckets.specs.declared.binding_parts.Bucket.{Bucket}
use Rattle.acl_buckets.specs.BindingParts.{bucket_sort_key}
use Rattle.acl_buckets.proofs.BindingPartLaws.{looked, bucket_found, bucket_missed, same_key_bucket}
use Rattle.acl_buckets.proofs.EditLaws.{made_on}
use Rattle.acl_buckets.proofs.binding_parts.make_one.Goals as goal

pub index_mut-requires : goal.index_mut-requires
index_mut-requires g c =
    let is = looked c.args.buckets.now.items c.as_slice.result.now c.args.edit.row.key c.key_text.result.kind c.key_text.result.text.now c.bucket_of.result c.as_slice.ensures.value c.key_text.ensures.kind c.key_text.ensures.text c.bucket_of.ensures in
    let lt = found_within bucket_sort_key (member_sort_key c.args.edit.row.key) c.args.buckets.now.items c.in-Ok.index (sym is ∙ c.in-Ok.is) in
    omega (arith, lt, c.args.buckets.now.ok.0)

pub make_edit-requires-clause-room : goal.make_edit-requires-clause-room
make_edit-requires-clause-room g c =
    let is = looked c.args.buckets.now.items c.as_slice.result.now c.args.edit.row.key c.key_text.result.kind c.key_text.result.text.now c.bucket_of.result c.as_slice.ensures.value c.key_text.ensures.kind c.key_text.ensures.text c.bucket_of.ensures in
    let at = bucket_found (member_sort_key c.args.edit.row.key) c.args.buckets.now.items c.in-Ok.index c.index_mut.result.now c.requires.bucketed (sym is ∙ c.in-Ok.is) c.index_mut.ensures.value in
    subst (λ (p : RowsAndRoom Binding). 1 ≤ p.room) at.part_is c.requires.room

pub make_edit-requires-clause-found : goal.make_edit-requires-clause-found
make_edit-requires-clause-found g c =
    let is = looked c.args.buckets.now.items c.as_slice.result.now c.args.edit.row.key c.key_text.result.kind c.key_text.result.text.now c.bucket_of.result c.as_slice.ensures.value c.key_text.ensures.kind c.key_text.ensures.text c.bucket_of.ensures in
    let at = bucket_found (member_sort_key c.args.edit.row.key) c.args.buckets.now.items c.in-Ok.index c.index_mut.result.now c.requires.bucketed (sym is ∙ c.in-Ok.is) c.index_mut.ensures.value in
    c.requires.found ∙ ap (λ (p : RowsAndRoom Binding). index_in binding_sort_key (binding_sort_key c.args.edit.row) p.rows) at.part_is

pub unreachable-requires : goal.unreachable-requires
unreachable-requires g c =
    let is = looked c.args.buckets.now.items c.as_slice.result.now c.args.edit.row.key c.key_text.result.kind c.key_text.result.text.now c.bucket_of.result c.as_slice.ensures.value c.key_text.ensures.kind c.key_text.ensures.text c.bucket_of.ensures in
    let none = bucket_missed (member_sort_key c.args.edit.row.key) c.args.buckets.now.items c.in-Err.field-0 c.requires.bucketed (sym is ∙ c.in-Err.is) in
    let room : 1 ≤ 0 = subst (λ (p : RowsAndRoom Binding). 1 ≤ p.room) none c.requires.room in
    absurd (omega (arith, room))

pub returns-clause-buckets : goal.returns-clause-buckets
returns-clause-buckets g c =
    let is = looked c.args.buckets.now.items c.as_slice.result.now c.args.edit.row.key c.key_text.result.kind c.key_text.result.text.now c.bucket_of.result c.as_slice.ensures.value c.key_text.ensures.kind c.key_text.ensures.text c.bucket_of.ensures in
    let old : Bucket = c.index_mut.result.now in
    let new : Bucket = record { key = old.key; bindings = c.make_edit.new.rows } in
    made_on c.args.edit c.args.buckets.now.items c.in-Ok.index old new c.requires.bucketed (sym is ∙ c.in-Ok.is) c.index_mut.ensures.value (same_key_bucket new old refl) c.make_edit.ensures.rows c.make_edit.ensures.room

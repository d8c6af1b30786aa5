use Rattle.std.proofs.Common.{◌≡◌, ◌≤◌, List, ℕ, length, sym, ap, subst, ◌∙◌}
use Rattle.base_rows.specs.Sortable.{rows_under}
use Rattle.acl_model.specs.declared.binding.Binding.{Binding}
use Rattle.acl_model.specs.SortKeys.{text_sort_key, binding_sort_key}
use Rattle.acl_buckets.specs.declared.binding_parts.Bucket.{Bucket}
use Rattle.acl_buckets.specs.BindingBuckets.{KeptBindings}
use Rattle.acl_buckets.specs.BindingParts.{part_at}
use Rattle.acl_buckets.proofs.KeyLaws.{tells_text}
use Rattle.acl_buckets.proofs.BindingPartLaws.{joined_under, under_few}
use Rattle.acl_buckets.proofs.bindings.BindingBuckets.bucket.Goals as goal

-- what is lent is what stands in the bucket
lent : (c : goal.After-bindings_at) → c.bindings_at.result.now.rows ≡ rows_under binding_sort_key (text_sort_key c.args.key.kind c.args.key.text.now) c.args.self.now.rows
lent c =
    let t : List ℕ = text_sort_key c.args.key.kind c.args.key.text.now in
    c.bindings_at.ensures
    ∙ ap (λ (ss : List Bucket). (part_at t ss).rows) c.as_slice.ensures.value
    ∙ sym (joined_under t (tells_text c.args.key.kind c.args.key.text.now) c.self.inside.buckets.items c.self.invariant.bucketed)
    ∙ ap (λ (k : KeptBindings). rows_under binding_sort_key t k.rows) c.self.view_is

pub returns-clause-rows : goal.returns-clause-rows
returns-clause-rows c = lent c

pub returns-clause-few : goal.returns-clause-few
returns-clause-few c = subst (λ (rows : List Binding). length rows ≤ length c.args.self.now.rows) (sym (lent c)) (under_few (text_sort_key c.args.key.kind c.args.key.text.now) c.args.self.now.rows)

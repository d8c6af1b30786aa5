use Rattle.std.proofs.Common.{◌∙◌}
use Rattle.base_rows.specs.Sortable.{sort_key_cmp}
use Rattle.acl_model.specs.SortKeys.{text_sort_key, member_sort_key}
use Rattle.acl_buckets.specs.BindingParts.{bucket_sort_key}
use Rattle.acl_buckets.proofs.binding_parts.order_bucket.Goals as goal

pub returns : goal.returns
unfolding bucket_sort_key member_sort_key
returns c = c.order_keys.ensures ∙ (λ i. sort_key_cmp (text_sort_key (c.key_text.ensures.kind i) (c.key_text.ensures.text i)) (text_sort_key c.args.key.kind c.args.key.text.now))

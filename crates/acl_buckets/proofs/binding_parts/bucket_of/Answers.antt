use Rattle.std.proofs.Common.{rules}
use Rattle.std.proofs.lemmas.Fn.{always_returns_same}
use Rattle.base_rows.specs.Sortable.{sort_key_cmp}
use Rattle.acl_model.specs.SortKeys.{text_sort_key}
use Rattle.acl_buckets.specs.declared.binding_parts.Bucket.{Bucket}
use Rattle.acl_buckets.specs.BindingParts.{bucket_sort_key}
use Rattle.acl_buckets.proofs.SearchLaws.{searched}
use Rattle.acl_buckets.proofs.binding_parts.bucket_of.Goals as goal

pub returns : goal.returns
returns c =
    let facts = c.binary_search_by.ensures in
    let by_sort_key = facts.position (λ (s : Bucket). sort_key_cmp (bucket_sort_key s) (text_sort_key c.args.key.kind c.args.key.text.now)) (always_returns_same _ _ _ (λ a r f' called. search rules)) in
    searched (text_sort_key c.args.key.kind c.args.key.text.now) c.args.buckets.now c.binary_search_by.result c.requires facts.bound by_sort_key

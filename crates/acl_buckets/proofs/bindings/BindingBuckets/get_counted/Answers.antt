use Rattle.std.proofs.Common.{ap, ◌++◌, ◌∙◌}
use Rattle.base_rows.specs.Addresses.{addr_sort_key}
use Rattle.base_rows.specs.Sortable.{row_at}
use Rattle.acl_model.specs.SortKeys.{text_sort_key, binding_sort_key}
use Rattle.acl_buckets.proofs.KeyLaws.{tells_text}
use Rattle.acl_buckets.proofs.BindingPartLaws.{row_under}
use Rattle.acl_buckets.proofs.bindings.BindingBuckets.get_counted.Goals as goal

pub returns-clause-row : goal.returns-clause-row
returns-clause-row g c =
    let key = c.args.key.now.key in
    c.get_counted.ensures.row
    ∙ ap (row_at binding_sort_key (text_sort_key key.kind key.text.now ++ addr_sort_key c.args.key.now.addr)) c.bucket.ensures.rows
    ∙ row_under (text_sort_key key.kind key.text.now) (tells_text key.kind key.text.now) c.args.key.now.addr c.args.self.now.rows

use Rattle.std.proofs.Common.{◌+◌, ◌-◌, ◌*◌, ◌^◌, ◌≤◌, min, List, length, ap, subst, ◌∙◌}
use Rattle.base_rows.specs.Sortable.{index_in}
use Rattle.acl_model.specs.declared.binding.Binding.{Binding}
use Rattle.acl_model.specs.SortKeys.{binding_sort_key}
use Rattle.acl_buckets.specs.BindingBuckets.{index_by_key}
use Rattle.acl_buckets.proofs.BindingPartLaws.{own_rows}
use Rattle.acl_buckets.proofs.bindings.BindingBuckets.find_counted.Goals as goal

pub returns-clause-index : goal.returns-clause-index
unfolding index_by_key
returns-clause-index g c =
    let own = own_rows c.args.binding.now.key c.key_text.result.kind c.key_text.result.text.now c.bucket.result.now.rows c.args.self.now.rows c.key_text.ensures.kind c.key_text.ensures.text c.bucket.ensures.rows in
    c.find_counted.ensures.index ∙ ap (index_in binding_sort_key (binding_sort_key c.args.binding.now)) own

pub returns-clause-least : goal.returns-clause-least
returns-clause-least g c =
    let own = own_rows c.args.binding.now.key c.key_text.result.kind c.key_text.result.text.now c.bucket.result.now.rows c.args.self.now.rows c.key_text.ensures.kind c.key_text.ensures.text c.bucket.ensures.rows in
    subst (λ (rows : List Binding). c.args.steps.now + min 1 (length rows) ≤ c.find_counted.new.steps) own c.find_counted.ensures.least

pub returns-clause-most : goal.returns-clause-most
returns-clause-most g c =
    let own = own_rows c.args.binding.now.key c.key_text.result.kind c.key_text.result.text.now c.bucket.result.now.rows c.args.self.now.rows c.key_text.ensures.kind c.key_text.ensures.text c.bucket.ensures.rows in
    subst (λ (rows : List Binding). 2 ^ (c.find_counted.new.steps - c.args.steps.now) ≤ 2 * length rows + 1) own c.find_counted.ensures.most

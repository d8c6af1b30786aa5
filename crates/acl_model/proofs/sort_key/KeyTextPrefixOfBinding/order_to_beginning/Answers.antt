use Rattle.std.proofs.Common.{sym, ◌∙◌}
use Rattle.base_rows.specs.Sortable.{sort_key_cmp}
use Rattle.acl_model.specs.SortKeys.{key_kind, key_text, text_sort_key, member_sort_key, bound_sort_key, binding_sort_key}
use Rattle.acl_model.proofs.SortKeyLaws.{text_sort_key_prefix}
use Rattle.acl_model.proofs.sort_key.KeyTextPrefixOfBinding.order_to_beginning.Goals as goal

pub returns : goal.returns
unfolding member_sort_key bound_sort_key binding_sort_key
returns c =
    c.order_keys.ensures
    ∙ (λ i. sort_key_cmp (text_sort_key c.args.self.now.kind c.args.self.now.text.now) (text_sort_key (c.key_text.ensures.kind i) (c.key_text.ensures.text i)))
    ∙ sym (text_sort_key_prefix c.args.self.now.kind (key_kind c.args.row.now.key) c.args.self.now.text.now (key_text c.args.row.now.key) c.args.row.now.addr)

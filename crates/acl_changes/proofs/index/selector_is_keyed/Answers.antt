use Rattle.std.proofs.Common.{List, ℕ, ap, sym, refl, ◌∙◌}
use Rattle.std.specs.Ordering.{is_eq}
use Rattle.base_rows.specs.Sortable.{sort_key_cmp}
use Rattle.base_rows.proofs.SortableLaws.{same_sort_key-cmp}
use Rattle.acl_model.specs.SortKeys.{text_sort_key}
use Rattle.acl_changes.proofs.SpotLaws.{keyed_some}
use Rattle.acl_changes.proofs.index.selector_is_keyed.Goals as goal

pub returns-in-Some : goal.returns-in-Some
returns-in-Some c =
    let own : List ℕ = text_sort_key c.in-Some.own.kind c.in-Some.own.text.now in
    let p : List ℕ = text_sort_key c.args.key.now.kind c.args.key.now.text.now in
    c.is_eq.ensures ∙ ap is_eq c.order_keys.ensures ∙ sym (same_sort_key-cmp own p (sort_key_cmp own p) refl)
    ∙ sym (keyed_some c.in-Some.own.kind c.in-Some.own.text.now p c.args.url.now c.args.selector.now c.in-Some.ensures)

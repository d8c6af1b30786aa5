use Rattle.std.proofs.Common.{◌++◌, ◌∷◌, [], Bool, List, cond, sym, ap, ◌∙◌}
use Rattle.base_rows.specs.Sortable.{set_row}
use Rattle.base_rows.proofs.SortableLaws.{set_row_last}
use Rattle.base_rows.specs.declared.edit.Edit.{Edit}
use Rattle.base_rows.specs.Edits.{edit, edit_sort_key}
use Rattle.acl_rows.specs.declared.row.Row.{Row}
use Rattle.acl_rows.specs.SortKeys.{row_sort_key}
use Rattle.acl_changes.proofs.change.add_edit.Goals as goal

pub returns-else-not-push_last : goal.returns-else-not-push_last
returns-else-not-push_last c =
    let rows : List (Edit Row) = c.reserve.new.self.rows in
    let last : Edit Row = edit c.args.row.now c.args.comes c.args.found in
    c.push_last.ensures.rows
    ∙ ap (λ (b : Bool). cond b (rows ++ last ∷ []) rows) c.if-not-push_last.false
    ∙ sym (set_row_last (edit_sort_key row_sort_key) last rows (sym c.push_last.ensures.last ∙ c.if-not-push_last.false))
    ∙ ap (set_row (edit_sort_key row_sort_key) last) c.in_ok-reserve.ensures.rows

use Rattle.std.proofs.Common.{map, true, false}
use Rattle.acl_model.specs.SortKeys.{binding_sort_key}
use Rattle.base_rows.specs.Edits.{edit_sort_key}
use Rattle.acl_changes.specs.Bindings.{binding_edit}
use Rattle.acl_changes.proofs.BindingEdits.{are_edits}
use Rattle.acl_changes.proofs.Halves.{put_behind}
use Rattle.acl_changes.proofs.bindings.edits_of.Goals as goal

pub returns-clause-ok : goal.returns-clause-ok
returns-clause-ok g c =
    are_edits c.args.gone.now c.args.come.now c.args.bindings.now.rows c.put_sorted.new.self.rows c.tell_order.ensures
    (put_behind (edit_sort_key binding_sort_key) (map (binding_edit c.args.bindings.now.rows false) c.args.gone.now) (map (binding_edit c.args.bindings.now.rows true) c.args.come.now)
    c.in_ok-edits.edits.rows c.in_ok-more.more.rows c.put_sorted.new.self.rows
    c.in_ok-edits.ensures.ok c.in_ok-more.ensures.ok c.in_ok-put_sorted.ensures.ok)

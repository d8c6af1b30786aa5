use Rattle.std.proofs.Common.{length}
use Rattle.acl_model.specs.SortKeys.{binding_sort_key}
use Rattle.base_rows.specs.Edits.{edit_sort_key}
use Rattle.acl_changes.specs.Bindings.{binding_edit}
use Rattle.acl_changes.proofs.BindingEdits.{looks_of_halves}
use Rattle.acl_changes.proofs.Halves.{halves, steps_of_halves}
use Rattle.acl_changes.proofs.bindings.+plan_bindings.Goals as goal

pub returns-in_err-more-clause-most : goal.returns-in_err-more-clause-most
returns-in_err-more-clause-most g t c = λ b few.
    steps_of_halves _ (length c.split_at.result.0.now) (length c.split_at.result.1.now) (length c.args.changed.now) b c.args.steps.now c.plan_bindings.new.steps c.plan_bindings-2.new.steps
    c.split_at.ensures.front_len c.split_at.ensures.back_len (c.plan_bindings.ensures.most b few) (c.plan_bindings-2.ensures.most b few)

pub returns-in_err-put_sorted-clause-most : goal.returns-in_err-put_sorted-clause-most
returns-in_err-put_sorted-clause-most g t c = λ b few.
    steps_of_halves _ (length c.split_at.result.0.now) (length c.split_at.result.1.now) (length c.args.changed.now) b c.args.steps.now c.plan_bindings.new.steps c.plan_bindings-2.new.steps
    c.split_at.ensures.front_len c.split_at.ensures.back_len (c.plan_bindings.ensures.most b few) (c.plan_bindings-2.ensures.most b few)

pub returns-clause-ok : goal.returns-clause-ok
returns-clause-ok g t c =
    halves (edit_sort_key binding_sort_key) (binding_edit c.args.bindings.now.rows c.args.comes) _ c.args.changed.now c.split_at.result.0.now c.split_at.result.1.now
    c.in_ok-edits.edits.rows c.in_ok-more.more.rows c.put_sorted.new.self.rows
    c.split_at.ensures.front c.split_at.ensures.back c.in_ok-edits.ensures.ok c.in_ok-more.ensures.ok c.in_ok-put_sorted.ensures.ok

pub returns-clause-most : goal.returns-clause-most
returns-clause-most g t c = λ b few.
    steps_of_halves _ (length c.split_at.result.0.now) (length c.split_at.result.1.now) (length c.args.changed.now) b c.args.steps.now c.plan_bindings.new.steps c.plan_bindings-2.new.steps
    c.split_at.ensures.front_len c.split_at.ensures.back_len (c.plan_bindings.ensures.most b few) (c.plan_bindings-2.ensures.most b few)

pub returns-clause-looked : goal.returns-clause-looked
returns-clause-looked g t c =
    looks_of_halves c.args.bindings.now.rows _ c.args.changed.now c.split_at.result.0.now c.split_at.result.1.now c.args.steps.now c.plan_bindings.new.steps c.plan_bindings-2.new.steps
    c.split_at.ensures.front c.split_at.ensures.back c.in_ok-edits.ensures.looked c.in_ok-more.ensures.looked

use Rattle.std.proofs.Common.{ℕ, ◌+◌, List, map, drop, sym, ap, ◌∙◌, arith}
use Rattle.base_rows.specs.Sortable.{set_rows}
use Rattle.acl_model.specs.declared.binding.Binding.{Binding}
use Rattle.acl_model.specs.SortKeys.{binding_sort_key}
use Rattle.base_rows.specs.declared.edit.Edit.{Edit}
use Rattle.base_rows.specs.Edits.{edit_sort_key}
use Rattle.acl_changes.specs.Bindings.{binding_edit}
use Rattle.acl_changes.proofs.BindingEdits.{next_edit, one_planned, next_look, one_look, no_look}
use Rattle.acl_changes.proofs.bindings.plan_each.Goals as goal

pub loop-binding-preserved : goal.loop-binding-preserved
loop-binding-preserved g c =
    let i : ℕ = c.loop-binding.binding-index in
    let rest : List Binding = drop (i + 1) c.args.changed.now in
    record {
      edits =
          c.loop-binding.invariant.edits
          ∙ next_edit (binding_edit c.args.bindings.now.rows c.args.comes) c.args.changed.now i c.binding-item.result c.loop-binding.edits.rows c.loop-binding-test.true c.binding-item.is
          ∙ ap (λ (es : List (Edit Binding)). set_rows (edit_sort_key binding_sort_key) (map (binding_edit c.args.bindings.now.rows c.args.comes) rest) es)
          (sym (c.in_ok-plan_edit.ensures.ok ∙ one_planned c.args.bindings.now.rows c.args.comes c.binding-item.result c.in_ok-copy.field-0 c.find_counted-found.result c.loop-binding.edits.rows c.in_ok-copy.ensures c.find_counted-found.ensures.index));
      looked =
          (let count = next_look c.args.bindings.now.rows c.args.changed.now i c.binding-item.result c.loop-binding-test.true c.binding-item.is in
          omega (arith, c.loop-binding.invariant.looked, one_look c.args.bindings.now.rows c.binding-item.result c.loop-binding.steps c.find_counted-found.new.steps c.find_counted-found.ensures.least, count));
      up = omega (arith, c.loop-binding.invariant.up, c.find_counted-found.ensures.least);
      most = λ b few. omega (arith, c.loop-binding.invariant.most b few, c.find_counted-found.ensures.digits b few);
    }

pub returns-clause-looked : goal.returns-clause-looked
returns-clause-looked g c = omega (arith, c.loop-binding.invariant.looked, no_look c.args.bindings.now.rows c.args.changed.now c.loop-binding.binding-index c.loop-binding-test.false)

use Rattle.std.proofs.Common.{◌++◌, ◌∷◌, [], map, sym, ap, ◌∙◌, arith}
use Rattle.std.specs.Prelude.{is_some}
use Rattle.acl_model.proofs.BindingLaws.{those_not_in-none}
use Rattle.table_laws.specs.Lent.{lent_binding}
use Rattle.table_laws.proofs.Indices.{left_stays, left_put}
use Rattle.table_laws.proofs.changes.those_not_in.Goals.{in-Some, in-None+in_ok-to_binding-in-None+in_ok-push-in-None}
use Rattle.table_laws.proofs.changes.those_not_in.Goals as goal

pub loop-binding-init : goal.loop-binding-init
loop-binding-init c = record {
  left = c.new-left.ensures ∙ sym (those_not_in-none (map lent_binding c.args.others.now));
  index = omega arith;
}

pub loop-binding-preserved : goal.loop-binding-preserved
loop-binding-preserved c =
    let others = map lent_binding c.args.others.now in
    elim c.match-index_from.branch [
      | in-Some w ↦ record {
        left =
            w.left-is
            ∙ c.loop-binding.invariant.left
            ∙ sym (left_stays others c.args.bindings.now c.loop-binding.binding-index c.binding-item.result c.loop-binding-test.true c.binding-item.is (sym c.index_from.ensures.found ∙ ap is_some w.in-Some.is));
        index = omega (arith, w.next-is, w.in-Some.ensures);
      }
      | in-None+in_ok-to_binding-in-None+in_ok-push-in-None w ↦ record {
        left =
            w.left-is
            ∙ w.in_ok-push-in-None.ensures.ok
            ∙ (λ i. c.loop-binding.invariant.left i ++ w.in_ok-to_binding-in-None.ensures i ∷ [])
            ∙ sym (left_put others c.args.bindings.now c.loop-binding.binding-index c.binding-item.result c.loop-binding-test.true c.binding-item.is (sym c.index_from.ensures.found ∙ ap is_some w.in-None.is));
        index = omega arith;
      }
    ]

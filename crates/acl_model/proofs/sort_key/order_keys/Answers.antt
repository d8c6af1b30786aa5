use Rattle.std.proofs.Common.{sym, ◌∙◌}
use Rattle.std.specs.Ordering.{ordering_then}
use Rattle.acl_model.proofs.SortKeyLaws.{front_decides, front_ties}
use Rattle.acl_model.proofs.sort_key.order_keys.Goals as goal

pub returns-then-is_ne : goal.returns-then-is_ne
returns-then-is_ne c =
    front_decides c.args.own.kind c.args.other.kind c.args.own.text.now c.args.other.text.now c.then-front.result
    (c.then-front.ensures ∙ (λ i. ordering_then (c.cmp.ensures i) (c.cmp-2.ensures i))) (sym c.is_ne.ensures ∙ c.if-is_ne.true)

pub returns : goal.returns
returns c =
    c.octets_order.ensures
    ∙ front_ties c.args.own.kind c.args.other.kind c.args.own.text.now c.args.other.text.now c.then-front.result
    (c.then-front.ensures ∙ (λ i. ordering_then (c.cmp.ensures i) (c.cmp-2.ensures i))) (sym c.is_ne.ensures ∙ c.if-is_ne.false)

use Rattle.std.proofs.Common.{List, option_map, sym, ap, ◌∙◌, true, false}
use Rattle.mud_base.specs.declared.prefix.Prefix.{Prefix}
use Rattle.acl_model.specs.Match.{is_in_family}
use Rattle.rule_export.specs.Networks.{is_local_of, joined_with, rows_in}
use Rattle.rule_export.proofs.NetworkLaws.{next_kept}
use Rattle.rule_export.proofs.networks.put_locals.Goals as goal
use Rattle.rule_export.proofs.networks.put_locals.Goals.{then-is_in_family+in_ok-put_joined, else-is_in_family}

pub loop-p-preserved : goal.loop-p-preserved
unfolding is_local_of
loop-p-preserved c =
    let f : Prefix → List Prefix = joined_with (option_map rows_in c.args.rest.now) in
    elim c.if-is_in_family.branch [
      | then-is_in_family+in_ok-put_joined w ↦
          next_kept f (is_local_of c.args.family) c.args.locals.now c.loop-p.p-index c.p-item.result c.loop-p-test.true c.p-item.is true (ap (λ a. is_in_family c.args.family a) (sym c.addr.ensures.value) ∙ sym c.is_in_family.ensures ∙ w.if-is_in_family.true)
          c.loop-p.networks.rows c.if-is_in_family.networks.rows (ap (λ n. n.rows) w.networks-is ∙ w.in_ok-put_joined.ensures) ∙ c.loop-p.invariant
      | else-is_in_family w ↦
          next_kept f (is_local_of c.args.family) c.args.locals.now c.loop-p.p-index c.p-item.result c.loop-p-test.true c.p-item.is false (ap (λ a. is_in_family c.args.family a) (sym c.addr.ensures.value) ∙ sym c.is_in_family.ensures ∙ w.if-is_in_family.false)
          c.loop-p.networks.rows c.if-is_in_family.networks.rows (ap (λ n. n.rows) w.networks-is) ∙ c.loop-p.invariant
    ]

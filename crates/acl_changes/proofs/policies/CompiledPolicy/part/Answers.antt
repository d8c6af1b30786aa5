use Rattle.std.proofs.Common.{refl, sym, ap, subst, length, ◌∙◌}
use Rattle.mud_base.specs.declared.packet.Direction.{Direction}
use Rattle.acl_model.specs.declared.entry.Policy.{Policy}
use Rattle.acl_rows.specs.View.{part, rows_of_side, IsPartOf}
use Rattle.acl_changes.proofs.PolicyLaws.{part_from, part_to}
use Rattle.acl_changes.proofs.policies.CompiledPolicy.part.Goals as goal

pub returns-in-From : goal.returns-in-From
returns-in-From c =
    let bucket = rows_of_side c.args.owner c.args.side c.args.rows.now.rows in
    let made = part_from c.args.rows.now.rows bucket c.args.owner c.self.inside.policy c.self.inside.wide_outgoing c.self.inside.wide_incoming c.as_slice-in-From.result.now c.as_slice.result.now (ap (λ (s : Direction). rows_of_side c.args.owner s c.args.rows.now.rows) c.in-From.is) c.self.invariant c.as_slice.ensures c.as_slice-in-From.ensures in
    subst (IsPartOf c.args.rows.now.rows c.args.side c.args.owner c.args.self.now) (sym c.part.ensures)
    (subst (λ (p : Policy). IsPartOf c.args.rows.now.rows c.args.side c.args.owner p (part c.args.side c.as_slice.result.now c.as_slice-in-From.result.now bucket (length bucket))) c.self.view_is
    (subst (λ (s : Direction). IsPartOf c.args.rows.now.rows s c.args.owner c.self.inside.policy (part s c.as_slice.result.now c.as_slice-in-From.result.now bucket (length bucket))) (sym c.in-From.is) made))

pub returns-in-To : goal.returns-in-To
returns-in-To c =
    let bucket = rows_of_side c.args.owner c.args.side c.args.rows.now.rows in
    let made = part_to c.args.rows.now.rows bucket c.args.owner c.self.inside.policy c.self.inside.wide_outgoing c.self.inside.wide_incoming c.as_slice-in-To-2.result.now c.as_slice-in-To.result.now (ap (λ (s : Direction). rows_of_side c.args.owner s c.args.rows.now.rows) c.in-To.is) c.self.invariant c.as_slice-in-To.ensures c.as_slice-in-To-2.ensures in
    subst (IsPartOf c.args.rows.now.rows c.args.side c.args.owner c.args.self.now) (sym c.part-in-To.ensures)
    (subst (λ (p : Policy). IsPartOf c.args.rows.now.rows c.args.side c.args.owner p (part c.args.side c.as_slice-in-To.result.now c.as_slice-in-To-2.result.now bucket (length bucket))) c.self.view_is
    (subst (λ (s : Direction). IsPartOf c.args.rows.now.rows s c.args.owner c.self.inside.policy (part s c.as_slice-in-To.result.now c.as_slice-in-To-2.result.now bucket (length bucket))) (sym c.in-To.is) made))

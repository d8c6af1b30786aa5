use Rattle.std.proofs.Common.{◌+◌, length, ap, sym, subst, ◌∙◌}
use Rattle.acl_rows.specs.ByAddress.{SideRows, AreGroups}
use Rattle.acl_rows.specs.Groups.{Groups}
use Rattle.acl_rows.proofs.GroupLaws.{groups_lent}
use Rattle.acl_rows.proofs.by_address.AddressRows.all_rows.Goals as goal

pub returns-clause-groups : goal.returns-clause-groups
returns-clause-groups g c =
    let s = c.self.inside in
    subst (λ (gs : Groups). AreGroups gs c.args.self.now.rows) (sym c.all_rows.ensures.groups)
    (subst (λ (v : SideRows). AreGroups s.groups v.rows) c.self.view_is (groups_lent s.owner s.side s.groups c.self.invariant))

pub returns-clause-counted : goal.returns-clause-counted
returns-clause-counted g c = c.all_rows.ensures.counted ∙ ap (λ (v : SideRows). c.args.steps.now + length v.rows) c.self.view_is

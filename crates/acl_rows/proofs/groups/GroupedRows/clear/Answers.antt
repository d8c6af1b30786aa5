use Rattle.std.proofs.Common.{subst}
use Rattle.acl_rows.specs.ByAddress.{IsCleared}
use Rattle.acl_rows.specs.Groups.{Groups, has_rows, AreGrouped, HaveSameRows}
use Rattle.acl_rows.proofs.groups.GroupedRows.clear.Goals as goal

pub returns-clause-same : goal.returns-clause-same
returns-clause-same c =
    λ owner side. subst (λ (gs : Groups). AreGrouped owner side gs → HaveSameRows owner side gs c.clear_groups.new.groups.entries) c.self.view_is (c.clear_groups.ensures.same owner side)

pub returns-clause-cleared : goal.returns-clause-cleared
returns-clause-cleared c =
    subst (λ (gs : Groups). IsCleared has_rows gs c.clear_groups.new.groups.entries c.args.limit c.clear_groups.result) c.self.view_is c.clear_groups.ensures.cleared

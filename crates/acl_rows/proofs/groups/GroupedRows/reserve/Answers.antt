use Rattle.std.proofs.Common.{subst}
use Rattle.acl_rows.specs.Groups.{Groups, AreGrouped, AreRoomier}
use Rattle.acl_rows.proofs.groups.GroupedRows.reserve.Goals as goal

pub returns-clause-kept : goal.returns-clause-kept
returns-clause-kept c =
    λ owner side. subst (λ (gs : Groups). AreGrouped owner side gs → AreRoomier owner side gs c.reserve_group.new.groups.entries) c.self.view_is (c.reserve_group.ensures.kept owner side)

use Rattle.std.proofs.Common.{◌≡◌}
use Rattle.serde_json.specs.View.{view, members_view}
use Rattle.usage_walk.specs.Others.{first_unknown}
use Rattle.usage_walk.proofs.others.first_unknown.Given as goal
use Rattle.usage_walk.proofs.Parts.{first_other}

abbrev pub invariant-members : goal.invariant-members
invariant-members g l =
    (goal.iterator-members g).can_next l.name-iterator ×
    (goal.iterator-members g).is_finite l.name-iterator ×
    (first_unknown l.rows (view l.object) ≡ first_other l.rows (members_view l.name-iterator))

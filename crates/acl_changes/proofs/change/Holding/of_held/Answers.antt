use Rattle.std.proofs.Common.{sym, subst}
use Rattle.acl_changes.specs.Policies.{HasCounts}
use Rattle.acl_changes.proofs.change.Holding.of_held.Goals as goal

pub returns-clause-counts : goal.returns-clause-counts
returns-clause-counts c = subst HasCounts (sym c.policy-2.ensures.value) c.policy-2.ensures.counts

use Rattle.acl_changes.specs.Policies.{HasCounts}
use Rattle.acl_changes.proofs.PolicyLaws.{counts_of}
use Rattle.std.proofs.Common.{subst}
use Rattle.acl_changes.proofs.policies.CompiledPolicy.policy.Goals as goal

pub returns-clause-counts : goal.returns-clause-counts
returns-clause-counts c = subst HasCounts c.self.view_is (counts_of c.self.inside.policy c.self.inside.wide_outgoing c.self.inside.wide_incoming c.self.invariant)

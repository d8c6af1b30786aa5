use Rattle.std.proofs.Common.{subst, sym}
use Rattle.acl_changes.specs.Policies.{HasCounts}
use Rattle.acl_changes.proofs.PolicyLaws.{default_counts}
use Rattle.acl_changes.proofs.policies.CompiledPolicy.of_defaults.Goals as goal

pub new-requires : goal.new-requires
new-requires c = subst HasCounts (λ i. record { outgoing = sym c.in_ok-outgoing.ensures i; incoming = sym c.in_ok-incoming.ensures i }) default_counts

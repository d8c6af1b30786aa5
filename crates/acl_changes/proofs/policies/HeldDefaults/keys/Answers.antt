use Rattle.std.proofs.Common.{[], subst}
use Rattle.acl_changes.specs.Policies.{IsIndexOf}
use Rattle.acl_changes.proofs.policies.HeldDefaults.keys.Goals as goal

pub returns : goal.returns
returns c = subst (λ p. IsIndexOf [] p c.self.inside.keys) c.self.view_is c.self.invariant

use Rattle.std.proofs.Common.{subst}
use Rattle.acl_model.specs.Policies.{UrlPolicy}
use Rattle.acl_changes.specs.Policies.{IsIndexOf}
use Rattle.acl_changes.proofs.policies.Held.keys.Goals as goal

pub returns : goal.returns
returns c = subst (λ (h : UrlPolicy). IsIndexOf h.url h.policy c.self.inside.keys) c.self.view_is c.self.invariant

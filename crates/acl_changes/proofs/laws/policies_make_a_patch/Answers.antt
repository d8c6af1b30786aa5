use Rattle.acl_changes.proofs.PolicyPatch.{policy_patch}
use Rattle.acl_changes.proofs.laws.policies_make_a_patch.Goals as goal

pub returns : goal.returns
returns c = policy_patch

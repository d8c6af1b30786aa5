use Rattle.usage_tables.proofs.PolicyLaws.{policy_in-policies_of, policy_edited}
use Rattle.usage_tables.proofs.policy_laws.policies_follow_files.Goals as goal

pub returns-clause-listed : goal.returns-clause-listed
returns-clause-listed c files url ascend = policy_in-policies_of files url ascend

pub returns-clause-edited : goal.returns-clause-edited
returns-clause-edited c files edit url other ascend = policy_edited edit url other files ascend

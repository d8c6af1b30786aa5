use Rattle.rule_export.proofs.NetworkLaws.{asked_joint}
use Rattle.rule_export.proofs.near_laws.choices_are_joint.Goals as goal

pub returns : goal.returns
returns c = asked_joint

use Rattle.rule_export.proofs.NetworkLaws.{networks_hold}
use Rattle.rule_export.proofs.near_laws.networks_hold_what_matches.Goals as goal

pub returns : goal.returns
returns c = networks_hold

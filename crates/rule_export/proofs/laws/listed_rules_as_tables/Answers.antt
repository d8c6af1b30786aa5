use Rattle.rule_export.proofs.ListedLaws.{listed_alike}
use Rattle.rule_export.proofs.laws.listed_rules_as_tables.Goals as goal

pub returns : goal.returns
returns c = λ tables now url version policy side fields begun packet. listed_alike tables now url version policy side fields begun packet.one packet.met

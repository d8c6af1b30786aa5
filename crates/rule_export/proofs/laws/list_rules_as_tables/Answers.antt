use Rattle.rule_export.proofs.ListLaws.{list_as_tables}
use Rattle.rule_export.proofs.laws.list_rules_as_tables.Goals as goal

pub returns : goal.returns
returns c = λ tables url policy side view w fields begun over packet.
    list_as_tables over.by.slots over.bindings tables url policy side view w fields begun over.by.is_view over.same over.locals over.by.soon packet.one packet.met

use Rattle.rule_export.proofs.ViewLaws.{same_items, same_text}
use Rattle.rule_export.proofs.laws.views_list_as_tables.Goals as goal

pub returns-clause-items : goal.returns-clause-items
returns-clause-items c = λ tables url policy side view w over. same_items over.by.slots over.bindings tables url policy side view w over.by.is_view over.same over.locals over.by.soon

pub returns-clause-text : goal.returns-clause-text
returns-clause-text c = λ tables url policy side view w over. same_text over.by.slots over.bindings tables url policy side view w over.by.is_view over.same over.locals over.by.soon

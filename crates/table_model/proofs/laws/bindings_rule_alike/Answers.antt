use Rattle.table_model.proofs.Alike.{met_by_binding, rulings_alike}
use Rattle.table_model.proofs.laws.bindings_rule_alike.Goals as goal

pub returns-clause-selectors : goal.returns-clause-selectors
returns-clause-selectors c = met_by_binding

pub returns-clause-rulings : goal.returns-clause-rulings
returns-clause-rulings c = rulings_alike

use Rattle.table_model.proofs.ItemLaws.{locals_back, locals_alone}
use Rattle.table_model.proofs.laws.locals_are_read_back.Goals as goal

pub returns-clause-back : goal.returns-clause-back
returns-clause-back c = locals_back

pub returns-clause-alone : goal.returns-clause-alone
returns-clause-alone c = locals_alone

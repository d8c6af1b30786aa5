use Rattle.table_model.proofs.ItemLaws.{name_back, name_alone}
use Rattle.table_model.proofs.laws.names_are_read_back.Goals as goal

pub returns-clause-back : goal.returns-clause-back
returns-clause-back c = name_back

pub returns-clause-alone : goal.returns-clause-alone
returns-clause-alone c = name_alone

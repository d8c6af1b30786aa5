use Rattle.table_model.proofs.ItemLaws.{class_back, class_alone}
use Rattle.table_model.proofs.laws.classes_are_read_back.Goals as goal

pub returns-clause-back : goal.returns-clause-back
returns-clause-back c = class_back

pub returns-clause-alone : goal.returns-clause-alone
returns-clause-alone c = class_alone

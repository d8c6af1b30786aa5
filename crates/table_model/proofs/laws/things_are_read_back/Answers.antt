use Rattle.table_model.proofs.ItemLaws.{thing_back, first_thing_back, thing_alone}
use Rattle.table_model.proofs.laws.things_are_read_back.Goals as goal

pub returns-clause-back : goal.returns-clause-back
returns-clause-back c = thing_back

pub returns-clause-back_first : goal.returns-clause-back_first
returns-clause-back_first c = first_thing_back

pub returns-clause-alone : goal.returns-clause-alone
returns-clause-alone c = thing_alone

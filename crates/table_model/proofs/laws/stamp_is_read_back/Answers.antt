use Rattle.table_model.proofs.ItemLaws.{stamp_back, stamp_alone}
use Rattle.table_model.proofs.laws.stamp_is_read_back.Goals as goal

pub returns-clause-back : goal.returns-clause-back
returns-clause-back c = stamp_back

pub returns-clause-alone : goal.returns-clause-alone
returns-clause-alone c = stamp_alone

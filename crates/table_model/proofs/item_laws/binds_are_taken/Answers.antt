use Rattle.table_model.proofs.TakenLaws.{binds_again, binds_taken_all}
use Rattle.table_model.proofs.item_laws.binds_are_taken.Goals as goal

pub returns-clause-back : goal.returns-clause-back
returns-clause-back c = binds_again

pub returns-clause-alone : goal.returns-clause-alone
returns-clause-alone c items binds octets e = binds_taken_all items binds octets e

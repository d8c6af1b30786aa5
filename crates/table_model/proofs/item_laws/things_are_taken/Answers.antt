use Rattle.table_model.proofs.TakenLaws.{things_again, things_taken_all}
use Rattle.table_model.proofs.item_laws.things_are_taken.Goals as goal

pub returns-clause-back : goal.returns-clause-back
returns-clause-back c = things_again

pub returns-clause-alone : goal.returns-clause-alone
returns-clause-alone c items things octets e = things_taken_all items things octets e

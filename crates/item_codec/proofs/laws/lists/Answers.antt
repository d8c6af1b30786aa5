use Rattle.item_codec.proofs.FieldLaws.{list_again, list_read, list_apart}
use Rattle.item_codec.proofs.laws.lists.Goals as goal

pub returns-clause-back : goal.returns-clause-back
returns-clause-back c = list_again

pub returns-clause-alone : goal.returns-clause-alone
returns-clause-alone c = list_read

pub returns-clause-apart : goal.returns-clause-apart
returns-clause-apart c = list_apart

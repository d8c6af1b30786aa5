use Rattle.usage_tables.proofs.ItemLaws.{file_back, file_alone}
use Rattle.usage_tables.proofs.item_laws.files_are_read_back.Goals as goal

pub returns-clause-back : goal.returns-clause-back
returns-clause-back c = file_back

pub returns-clause-alone : goal.returns-clause-alone
returns-clause-alone c = file_alone

use Rattle.usage_tables.proofs.ToldFiles.{told-import_step, told-verdict_step, told-revoke_step}
use Rattle.usage_tables.proofs.laws.files_change_as_told.Goals as goal

pub returns-clause-imports : goal.returns-clause-imports
returns-clause-imports c files sound octets fetched = told-import_step files sound.ascend octets fetched

pub returns-clause-verdict : goal.returns-clause-verdict
returns-clause-verdict c files sound url digest v = told-verdict_step files sound.ascend url digest v

pub returns-clause-revoke : goal.returns-clause-revoke
returns-clause-revoke c files sound url = told-revoke_step files sound.ascend url

use Rattle.usage_tables.proofs.ImportLaws.{import_again}
use Rattle.usage_tables.proofs.laws.imports_are_idle.Goals as goal

pub returns : goal.returns
returns c = import_again

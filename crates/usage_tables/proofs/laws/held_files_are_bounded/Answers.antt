use Rattle.usage_tables.proofs.ItemLaws.{held_short, held_early}
use Rattle.usage_tables.proofs.laws.held_files_are_bounded.Goals as goal

pub returns-clause-octets : goal.returns-clause-octets
returns-clause-octets c = held_short

pub returns-clause-fetched : goal.returns-clause-fetched
returns-clause-fetched c = held_early

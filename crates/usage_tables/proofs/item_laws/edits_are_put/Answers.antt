use Rattle.usage_tables.proofs.EditLaws.{edit_differs, puts_of_kind}
use Rattle.usage_tables.proofs.item_laws.edits_are_put.Goals as goal

pub returns-clause-difference : goal.returns-clause-difference
returns-clause-difference c = edit_differs

pub returns-clause-kind : goal.returns-clause-kind
returns-clause-kind c = puts_of_kind

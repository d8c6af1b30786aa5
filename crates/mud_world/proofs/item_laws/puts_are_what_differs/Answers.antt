use Rattle.mud_world.proofs.ItemLaws.{untouched, touched, said}
use Rattle.mud_world.proofs.item_laws.puts_are_what_differs.Goals as goal

pub returns-clause-untouched : goal.returns-clause-untouched
returns-clause-untouched c = untouched

pub returns-clause-touched : goal.returns-clause-touched
returns-clause-touched c = touched

pub returns-clause-said : goal.returns-clause-said
returns-clause-said c = said

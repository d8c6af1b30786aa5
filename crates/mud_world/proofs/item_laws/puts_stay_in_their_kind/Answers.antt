use Rattle.mud_world.proofs.ItemLaws.{puts_among, ordered-append}
use Rattle.mud_world.proofs.item_laws.puts_stay_in_their_kind.Goals as goal

pub returns-clause-among : goal.returns-clause-among
returns-clause-among c = puts_among

pub returns-clause-ordered : goal.returns-clause-ordered
returns-clause-ordered c = ordered-append

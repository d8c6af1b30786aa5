use Rattle.mud_world.proofs.ItemLaws.{row_at-put_one, put_same, same_put, ordered-put_all}
use Rattle.mud_world.proofs.item_laws.puts_say_what_is_kept.Goals as goal

pub returns-clause-row : goal.returns-clause-row
returns-clause-row c = row_at-put_one

pub returns-clause-same : goal.returns-clause-same
returns-clause-same c = λ items put up. (same_put items put up, put_same items put up)

pub returns-clause-ordered : goal.returns-clause-ordered
returns-clause-ordered c = λ items puts up. ordered-put_all puts items up

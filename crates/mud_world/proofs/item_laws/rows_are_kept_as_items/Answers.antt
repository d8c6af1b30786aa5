use Rattle.mud_world.proofs.ItemLaws.{puts_kept, puts_of_kind, puts_length, puts_apart, row_at-items, ordered-items, puts_differ}
use Rattle.mud_world.proofs.item_laws.rows_are_kept_as_items.Goals as goal

pub returns-clause-puts : goal.returns-clause-puts
returns-clause-puts g c = puts_kept g.R.Sortable.sort_key

pub returns-clause-kind : goal.returns-clause-kind
returns-clause-kind g c = puts_of_kind g.R.Sortable.sort_key

pub returns-clause-few : goal.returns-clause-few
returns-clause-few g c = puts_length g.R.Sortable.sort_key

pub returns-clause-apart : goal.returns-clause-apart
returns-clause-apart g c = puts_apart g.R.Sortable.sort_key

pub returns-clause-row : goal.returns-clause-row
returns-clause-row g c = row_at-items g.R.Sortable.sort_key

pub returns-clause-ordered : goal.returns-clause-ordered
returns-clause-ordered g c = ordered-items g.R.Sortable.sort_key

pub returns-clause-difference : goal.returns-clause-difference
returns-clause-difference g c = puts_differ g.R.Sortable.sort_key

use Rattle.base_rows.proofs.EditLaws.{ascend-edited, row_at-edited, edited-set_row}
use Rattle.base_rows.proofs.edit_laws.edited_rows_are_told_by_sort_key.Goals as goal

pub returns-clause-ascend : goal.returns-clause-ascend
returns-clause-ascend g c = ascend-edited g.R.Sortable.sort_key

pub returns-clause-row : goal.returns-clause-row
returns-clause-row g c = row_at-edited g.R.Sortable.sort_key

pub returns-clause-more : goal.returns-clause-more
returns-clause-more g c = edited-set_row g.R.Sortable.sort_key

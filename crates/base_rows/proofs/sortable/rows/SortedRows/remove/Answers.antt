use Rattle.std.proofs.Common.{sym, ap, ◌∙◌}
use Rattle.base_rows.specs.Sortable.{without_row}
use Rattle.base_rows.proofs.SortableLaws.{found_within, row_at_found, row_at_missed, without_row_missed, sort_key_found}
use Rattle.base_rows.proofs.sortable.rows.SortedRows.remove.Goals as goal

pub take_at-requires : goal.take_at-requires
take_at-requires g c = found_within g.R.Sortable.sort_key (g.K.KeyOf.sort_key c.args.key.now) c.args.self.now.rows c.in-Ok.index (sym c.in-Ok.ensures.index)

pub returns-in-Ok-clause-row : goal.returns-in-Ok-clause-row
returns-in-Ok-clause-row g c = sym (row_at_found g.R.Sortable.sort_key (g.K.KeyOf.sort_key c.args.key.now) c.args.self.now.rows c.in-Ok.index c.in-Ok.ensures.ascend (sym c.in-Ok.ensures.index) ∙ c.take_at.ensures.row)

pub returns-in-Ok-clause-rows : goal.returns-in-Ok-clause-rows
returns-in-Ok-clause-rows g c = c.take_at.ensures.rows ∙ ap (λ p. without_row g.R.Sortable.sort_key p c.args.self.now.rows) (sort_key_found g.R.Sortable.sort_key (g.K.KeyOf.sort_key c.args.key.now) c.args.self.now.rows c.in-Ok.index c.take_at.result (sym c.in-Ok.ensures.index) c.take_at.ensures.row)

pub returns-in-Err-clause-row : goal.returns-in-Err-clause-row
returns-in-Err-clause-row g c = sym (row_at_missed g.R.Sortable.sort_key (g.K.KeyOf.sort_key c.args.key.now) c.args.self.now.rows c.in-Err.field-0 c.in-Err.ensures.ascend (sym c.in-Err.ensures.index))

pub returns-in-Err-clause-rows : goal.returns-in-Err-clause-rows
returns-in-Err-clause-rows g c = sym (without_row_missed g.R.Sortable.sort_key (g.K.KeyOf.sort_key c.args.key.now) c.args.self.now.rows c.in-Err.field-0 (sym c.in-Err.ensures.index))

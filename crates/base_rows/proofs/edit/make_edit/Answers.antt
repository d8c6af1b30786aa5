use Rattle.std.proofs.Common.{Bool, cond, sym, ap, ◌∙◌}
use Rattle.base_rows.specs.Sortable.{set_row, without_row}
use Rattle.base_rows.proofs.SortableLaws.{found_within, sort_key_found, without_row_missed}
use Rattle.base_rows.specs.Edits.{edit_made}
use Rattle.base_rows.proofs.edit.make_edit.Goals as goal

pub take_at-requires : goal.take_at-requires
take_at-requires g c = found_within g.R.Sortable.sort_key (g.R.Sortable.sort_key c.args.edit.row) c.args.rows.now.rows c.in-Ok.index (sym c.requires.found ∙ c.in-Ok.is)

pub returns-in-Ok-clause-rows : goal.returns-in-Ok-clause-rows
unfolding edit_made
returns-in-Ok-clause-rows g c =
    c.take_at.ensures.rows
    ∙ ap (λ p. without_row g.R.Sortable.sort_key p c.args.rows.now.rows)
    (sort_key_found g.R.Sortable.sort_key (g.R.Sortable.sort_key c.args.edit.row) c.args.rows.now.rows c.in-Ok.index c.take_at.result (sym c.requires.found ∙ c.in-Ok.is) c.take_at.ensures.row)
    ∙ ap (λ (b : Bool). cond b (set_row g.R.Sortable.sort_key c.args.edit.row c.args.rows.now.rows) (without_row g.R.Sortable.sort_key (g.R.Sortable.sort_key c.args.edit.row) c.args.rows.now.rows)) (sym c.if-comes.false)

pub returns-clause-rows : goal.returns-clause-rows
unfolding edit_made
returns-clause-rows g c =
    sym (without_row_missed g.R.Sortable.sort_key (g.R.Sortable.sort_key c.args.edit.row) c.args.rows.now.rows c.in_default.field-0 (sym c.requires.found ∙ c.in_default.is))
    ∙ ap (λ (b : Bool). cond b (set_row g.R.Sortable.sort_key c.args.edit.row c.args.rows.now.rows) (without_row g.R.Sortable.sort_key (g.R.Sortable.sort_key c.args.edit.row) c.args.rows.now.rows)) (sym c.if-comes.false)

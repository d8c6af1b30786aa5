use Rattle.std.proofs.Common.{slice_get, sym, ap, ◌∙◌}
use Rattle.base_rows.proofs.Lent.{lent}
use Rattle.base_rows.proofs.SortableLaws.{row_at_found, row_at_missed}
use Rattle.base_rows.proofs.sortable.rows.SortedRows.get.Goals as goal

pub returns-in-Ok : goal.returns-in-Ok
returns-in-Ok g c =
    lent c.rows.result.now c.in-Ok.index c.get.result c.get.ensures.lookup
    ∙ ap (λ rows. slice_get rows c.in-Ok.index) c.rows.ensures.rows
    ∙ sym (row_at_found g.R.Sortable.sort_key (g.K.KeyOf.sort_key c.args.key.now) c.args.self.now.rows c.in-Ok.index c.in-Ok.ensures.ascend (sym c.in-Ok.ensures.index))

pub returns-in-Err : goal.returns-in-Err
returns-in-Err g c = sym (row_at_missed g.R.Sortable.sort_key (g.K.KeyOf.sort_key c.args.key.now) c.args.self.now.rows c.in-Err.field-0 c.in-Err.ensures.ascend (sym c.in-Err.ensures.index))

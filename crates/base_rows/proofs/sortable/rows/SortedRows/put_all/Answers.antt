use Rattle.std.proofs.Common.{ap, sym, ◌∙◌, arith}
use Rattle.std.proofs.lemmas.List.{length_push}
use Rattle.base_rows.specs.Sortable.{set_row}
use Rattle.base_rows.proofs.SortableLaws.{set_rows-push}
use Rattle.base_rows.proofs.sortable.rows.SortedRows.put_all.Goals as goal

pub loop-row-preserved : goal.loop-row-preserved
loop-row-preserved g c = (
  c.put.ensures.rows
      ∙ ap (set_row g.R.Sortable.sort_key c.in-Some.row) c.loop-row.invariant.0
      ∙ sym (set_rows-push g.R.Sortable.sort_key c.loop-row.yielded c.in-Some.row c.args.self.now.rows),
  omega (arith, length_push c.loop-row.yielded c.in-Some.row),
  omega arith,
)

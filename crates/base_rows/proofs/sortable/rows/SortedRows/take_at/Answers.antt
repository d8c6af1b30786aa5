use Rattle.base_rows.proofs.SortableLaws.{ascend-without_row}
use Rattle.base_rows.proofs.sortable.rows.SortedRows.take_at.Goals as goal

pub invariant_of-self : goal.invariant_of-self
invariant_of-self g c = rw c.take_row.ensures.items (ascend-without_row g.R.Sortable.sort_key (g.R.Sortable.sort_key c.take_row.result) c.self.inside.rows.items c.self.invariant)

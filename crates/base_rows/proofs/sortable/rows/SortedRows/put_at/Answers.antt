use Rattle.base_rows.proofs.SortableLaws.{ascend-set_row}
use Rattle.base_rows.proofs.sortable.rows.SortedRows.put_at.Goals as goal

pub invariant_of-self : goal.invariant_of-self
invariant_of-self g c = rw c.put_row.ensures.items (ascend-set_row g.R.Sortable.sort_key c.args.row c.self.inside.rows.items c.self.invariant)

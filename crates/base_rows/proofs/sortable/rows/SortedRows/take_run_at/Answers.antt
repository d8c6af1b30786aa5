use Rattle.base_rows.proofs.RunLaws.{ascend_taken}
use Rattle.base_rows.proofs.sortable.rows.SortedRows.take_run_at.Goals as goal

pub invariant_of-self : goal.invariant_of-self
invariant_of-self g c = rw c.take_run.ensures.items (ascend_taken g.R.Sortable.sort_key c.args.index c.args.count c.self.inside.rows.items c.self.invariant)

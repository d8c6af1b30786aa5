use Rattle.std.proofs.Common.{List, map, drop, sym, subst}
use Rattle.base_rows.specs.Sortable.{SortKeysAscend, RowsAndRoom}
use Rattle.base_rows.proofs.RunLaws.{AllBelongAt, ascend_put, ascend-take}
use Rattle.base_rows.proofs.sortable.rows.SortedRows.put_run_at.Given.{Over}
use Rattle.base_rows.proofs.sortable.rows.SortedRows.put_run_at.Goals as goal

-- the rows of the run
run : (g : Over) (c : goal.After-put_run g) → List g.row.R.Denot
run g c = map g.E.HoldsRow.row_of (drop c.args.first c.held.inside.rows.items)

own : (g : Over) (c : goal.After-put_run g) → SortKeysAscend g.R.Sortable.sort_key (run g c)
unfolding run
own g c = subst (λ (s : RowsAndRoom g.row.E.Denot). SortKeysAscend g.R.Sortable.sort_key (map g.E.HoldsRow.row_of (drop c.args.first s.rows))) (sym c.held.view_is) c.requires.ascend

found : (g : Over) (c : goal.After-put_run g) → AllBelongAt g.R.Sortable.sort_key c.args.index c.self.inside.rows.items (run g c)
unfolding run
found g c =
    subst (λ (s : RowsAndRoom g.row.R.Denot). AllBelongAt g.R.Sortable.sort_key c.args.index s.rows (map g.E.HoldsRow.row_of (drop c.args.first c.held.inside.rows.items))) (sym c.self.view_is)
    (subst (λ (s : RowsAndRoom g.row.E.Denot). AllBelongAt g.R.Sortable.sort_key c.args.index c.args.self.now.rows (map g.E.HoldsRow.row_of (drop c.args.first s.rows))) (sym c.held.view_is) c.requires.found)

pub invariant_of-self : goal.invariant_of-self
unfolding run
invariant_of-self g c = rw c.put_run.ensures.items (ascend_put g.R.Sortable.sort_key (map g.E.HoldsRow.row_of (drop c.args.first c.held.inside.rows.items)) c.self.inside.rows.items c.args.index c.self.invariant (own g c) (found g c))

pub invariant_of-held : goal.invariant_of-held
invariant_of-held g c = rw c.put_run.ensures.held (ascend-take g.E.Sortable.sort_key c.args.first c.held.inside.rows.items c.held.invariant)

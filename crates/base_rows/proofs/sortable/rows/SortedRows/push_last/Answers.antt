use Rattle.std.proofs.Common.{sym, ap, ◌∙◌}
use Rattle.base_rows.specs.Sortable.{comes_last}
use Rattle.base_rows.proofs.SortableLaws.{ascend-push}
use Rattle.base_rows.proofs.sortable.rows.SortedRows.push_last.Goals as goal

pub invariant_of-self : goal.invariant_of-self
invariant_of-self g c =
    rw c.push_reserved.ensures.items
    (ascend-push g.R.Sortable.sort_key c.args.row c.self.inside.rows.items c.self.invariant
    (ap (comes_last g.R.Sortable.sort_key c.args.row) (sym c.as_slice.ensures.value) ∙ sym c.follows_all.ensures ∙ c.if-not-follows_all.false))

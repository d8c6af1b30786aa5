use Rattle.std.proofs.Common.{subst, sym, ap, ◌∙◌}
use Rattle.base_rows.specs.Sortable.{SortKeysAscend, set_rows}
use Rattle.base_rows.proofs.SortableLaws.{ascend-set_rows}
use Rattle.base_rows.proofs.sortable.merge.put_sorted.Goals as goal

pub returns-clause-ascend : goal.returns-clause-ascend
returns-clause-ascend g c =
    let items = c.move_back.ensures.items ∙ c.move_behind.ensures.rows ∙ ap (set_rows g.R.Sortable.sort_key c.args.more.items) c.reserve.ensures.items in
    subst (SortKeysAscend g.R.Sortable.sort_key) (sym items) (ascend-set_rows g.R.Sortable.sort_key c.args.more.items c.args.rows.now.items c.requires.ascend)

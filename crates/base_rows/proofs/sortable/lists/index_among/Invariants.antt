use Rattle.std.proofs.Common.{◌≡◌, drop}
use Rattle.base_rows.specs.Sortable.{index_in}
use Rattle.base_rows.proofs.IndexAmong.{on_by}
use Rattle.base_rows.proofs.sortable.lists.index_among.Given as goal

abbrev pub invariant-loop-index : goal.invariant-loop-index
invariant-loop-index g l = on_by l.index (index_in g.R.Sortable.sort_key (g.R.Sortable.sort_key l.row) (drop l.index l.list)) ≡ index_in g.R.Sortable.sort_key (g.R.Sortable.sort_key l.row) l.list

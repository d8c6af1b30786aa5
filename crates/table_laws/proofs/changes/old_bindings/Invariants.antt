use Rattle.std.proofs.Common.{◌≡◌, ◌++◌, [], map, take}
use Rattle.std.specs.Prelude.{flat_map}
use Rattle.base_rows.specs.Changes.{with_found, gone_row, rows_at}
use Rattle.table_laws.specs.Lent.{lent_binding}
use Rattle.table_laws.proofs.changes.old_bindings.Given as goal

abbrev pub invariant-loop-row : goal.invariant-loop-row
invariant-loop-row g l =
    map lent_binding l.list ≡ flat_map g.R.BindingRow.bindings (with_found (gone_row g.R.Sortable.sort_key l.change.gone l.rows.rows) [] ++ rows_at g.R.Sortable.sort_key (map g.R.Sortable.sort_key (take l.row-index l.row-items)) l.rows.rows)

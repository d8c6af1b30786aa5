use Rattle.std.proofs.Common.{[], ◌++◌, map, ap, sym, ◌∙◌}
use Rattle.std.specs.Prelude.{flat_map}
use Rattle.std.proofs.lemmas.List.{take_all}
use Rattle.base_rows.specs.Sortable.{row_at}
use Rattle.base_rows.specs.Changes.{with_found, gone_row, rows_at, sort_keys_of, old_rows}
use Rattle.table_laws.proofs.OldRows.{rows_split, rows_more}
use Rattle.table_laws.proofs.changes.old_bindings.Goals as goal

pub loop-row-preserved : goal.loop-row-preserved
loop-row-preserved g c =
    let sort_key = g.R.Sortable.sort_key in
    let rows = c.args.rows.now.rows in
    let front = with_found (gone_row sort_key c.args.change.now.gone rows) [] in
    c.in_ok-add_bindings_at.ensures
    ∙ ap (λ list. list ++ flat_map g.R.BindingRow.bindings (with_found (row_at sort_key (sort_key c.row-item.result) rows) [])) c.loop-row.invariant
    ∙ sym (rows_more sort_key rows g.R.BindingRow.bindings front c.sets-row-items.result.now c.loop-row.row-index c.row-item.result c.loop-row-test.true c.row-item.is)

pub returns : goal.returns
unfolding old_rows sort_keys_of
returns g c =
    let sort_key = g.R.Sortable.sort_key in
    let rows = c.args.rows.now.rows in
    let gone = c.args.change.now.gone in
    c.loop-row.invariant
    ∙ ap (λ sets. flat_map g.R.BindingRow.bindings (with_found (gone_row sort_key gone rows) [] ++ rows_at sort_key (map sort_key sets) rows)) (take_all c.loop-row.row-index c.sets-row-items.result.now c.loop-row-test.false ∙ c.sets-row-items.ensures)
    ∙ ap (flat_map g.R.BindingRow.bindings) (rows_split sort_key rows gone c.args.change.now.sets)

use Rattle.std.proofs.Common.{Bool, if◌then◌else◌, sym, ap, ◌∙◌, arith}
use Rattle.std.specs.List.{insert}
use Rattle.base_rows.proofs.SortableLaws.{found_within, missed_within, set_row_found, set_row_missed}
use Rattle.base_rows.proofs.sortable.rows.put_row.Goals as goal

pub index_mut-requires : goal.index_mut-requires
index_mut-requires g c = omega (arith, found_within g.R.Sortable.sort_key (g.R.Sortable.sort_key c.args.row) c.args.rows.now.items c.in-Ok.index (c.requires.found ∙ c.in-Ok.is), c.args.rows.now.ok.0)

pub insert-requires : goal.insert-requires
insert-requires g c = omega (arith, missed_within g.R.Sortable.sort_key (g.R.Sortable.sort_key c.args.row) c.args.rows.now.items c.in-Err.index (c.requires.found ∙ c.in-Err.is), c.args.rows.now.ok.0)

pub returns-in-Ok-clause-items : goal.returns-in-Ok-clause-items
returns-in-Ok-clause-items g c = sym (set_row_found g.R.Sortable.sort_key c.args.row c.args.rows.now.items c.in-Ok.index (c.requires.found ∙ c.in-Ok.is))

pub returns-in-Err-clause-items : goal.returns-in-Err-clause-items
returns-in-Err-clause-items g c =
    c.insert.ensures.items
    ∙ ap (λ (b : Bool). if b then insert c.args.rows.now.items c.in-Err.index c.args.row else c.args.rows.now.items) (c.insert.ensures.succeeds c.requires.room)
    ∙ sym (set_row_missed g.R.Sortable.sort_key c.args.row c.args.rows.now.items c.in-Err.index (c.requires.found ∙ c.in-Err.is))

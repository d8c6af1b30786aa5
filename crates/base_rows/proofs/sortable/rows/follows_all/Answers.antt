use Rattle.std.proofs.Common.{◌-◌, length, sym, ap, ◌∙◌, arith}
use Rattle.std.specs.Ordering.{is_lt}
use Rattle.std.proofs.lemmas.Option.{slice_get_within}
use Rattle.base_rows.proofs.SortableLaws.{comes_last_by_last}
use Rattle.base_rows.proofs.sortable.rows.follows_all.Goals as goal

pub returns-in-Some : goal.returns-in-Some
returns-in-Some g c =
    let within = slice_get_within c.args.rows.now (length c.args.rows.now - 1) c.in-Some.last.now (sym c.in-Some.ensures.value) in
    c.is_lt.ensures ∙ ap is_lt c.order.ensures
    ∙ sym (comes_last_by_last g.R.Sortable.sort_key c.args.row.now c.in-Some.last.now c.args.rows.now (length c.args.rows.now - 1) c.requires (omega arith) (sym c.in-Some.ensures.value))

use Rattle.std.proofs.Common.{◌≡◌, ◌<◌, List, Ok, length, ap, sym, subst, ◌∙◌}
use Rattle.std.specs.Prelude.{option_map}
use Rattle.std.specs.List.{slice_get}
use Rattle.base_rows.specs.Sortable.{SortKeysAscend}
use Rattle.base_rows.proofs.SortableLaws.{found_within, row_at_found, row_at_missed}
use Rattle.acl_rows.specs.declared.row.Row.{Row}
use Rattle.acl_rows.specs.SortKeys.{row_sort_key, named_sort_key}
use Rattle.acl_rows.specs.ByAddress.{until_of_row}
use Rattle.acl_rows.proofs.groups.found_in.Goals as goal

pub until_at-requires : goal.until_at-requires
unfolding named_sort_key
until_at-requires g c =
    let key = c.args.key.now in
    subst (λ (rows : List Row). c.in-Ok.index < length rows) (sym c.rows-kept.ensures.rows)
    (found_within row_sort_key (named_sort_key key) c.args.rows.now.rows c.in-Ok.index (sym c.in-Ok.ensures.index))

pub returns-in-Ok-clause-until : goal.returns-in-Ok-clause-until
unfolding until_of_row named_sort_key
returns-in-Ok-clause-until g c =
    let key = c.args.key.now in
    sym (ap (option_map (λ (row : Row). row.until)) (row_at_found row_sort_key (named_sort_key key) c.args.rows.now.rows c.in-Ok.index c.rows-kept.ensures.ascend (sym c.in-Ok.ensures.index) ∙ ap (λ (rows : List Row). slice_get rows c.in-Ok.index) (sym c.rows-kept.ensures.rows)) ∙ c.until_at.ensures)

pub returns-in-Err-clause-until : goal.returns-in-Err-clause-until
unfolding until_of_row named_sort_key
returns-in-Err-clause-until g c =
    let key = c.args.key.now in
    sym (ap (option_map (λ (row : Row). row.until)) (row_at_missed row_sort_key (named_sort_key key) c.args.rows.now.rows c.in-Err.index c.rows-kept.ensures.ascend (sym c.in-Err.ensures.index)))

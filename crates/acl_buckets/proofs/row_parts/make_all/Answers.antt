use Rattle.std.proofs.Common.{List, sym, ap, ◌∙◌, arith}
use Rattle.base_rows.specs.declared.edit.Edit.{Edit}
use Rattle.base_rows.specs.Edits.{edited}
use Rattle.acl_rows.specs.declared.row.Row.{Row}
use Rattle.acl_rows.specs.SortKeys.{row_sort_key}
use Rattle.acl_buckets.specs.RowParts.{joined}
use Rattle.acl_buckets.proofs.row_parts.make_all.Goals as goal

pub loop-buckets-preserved : goal.loop-buckets-preserved
loop-buckets-preserved g c = record {
  sorted = c.make_last.ensures.made.sorted;
  rows = c.make_last.ensures.made.made ∙ c.loop-buckets.invariant.rows;
  limits = c.make_last.ensures.limits ∙ c.loop-buckets.invariant.limits;
  found = c.make_last.ensures.made.found;
  room = c.make_last.ensures.made.room;
  counted = omega (arith, c.make_last.ensures.counted, c.loop-buckets.invariant.counted);
}

pub returns-clause-rows : goal.returns-clause-rows
unfolding edited
returns-clause-rows g c =
    ap (λ (ws : List (Edit Row)). edited row_sort_key ws (joined c.loop-buckets.buckets.items)) (sym (c.is_empty.ensures.0 c.loop-buckets-test.false))
    ∙ c.loop-buckets.invariant.rows

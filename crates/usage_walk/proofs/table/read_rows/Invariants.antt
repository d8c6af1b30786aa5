use Rattle.std.proofs.Common.{◌≡◌, drop}
use Rattle.mud_base.specs.Readings.{answer, over}
use Rattle.usage_walk.specs.Tables.{row_of, rows_of}
use Rattle.serde_json.specs.View.{view}
use Rattle.usage_walk.proofs.table.read_rows.Given as goal

abbrev pub invariant-rows : goal.invariant-rows
invariant-rows g l =
    answer (rows_of g.H.Reads.reading l.path l.rows (view l.object) l.fn.so_far) ≡ answer (over (row_of g.H.Reads.reading l.path (view l.object)) l.meaning (drop l.row-index l.rows))

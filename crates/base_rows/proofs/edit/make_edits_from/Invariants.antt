use Rattle.std.proofs.Common.{◌≡◌, ◌+◌, ◌≤◌, length, drop}
use Rattle.base_rows.specs.Edits.{AreFound}
use Rattle.base_rows.specs.Runs.{AreMade}
use Rattle.base_rows.proofs.edit.make_edits_from.Given as goal

abbrev pub invariant-loop-rows : goal.invariant-loop-rows
invariant-loop-rows g l = record {
  made : AreMade g.R.Sortable.sort_key l.initial.edits.rows l.edits.rows l.initial.rows.rows l.rows.rows;
  found : AreFound g.R.Sortable.sort_key l.rows.rows (drop l.start l.edits.rows);
  start : l.start ≤ length l.edits.rows;
  room : l.initial.rows.room + length l.edits.rows ≤ l.rows.room + length l.initial.edits.rows;
  counted : l.steps + length l.edits.rows ≡ l.initial.steps + length l.initial.edits.rows;
}

abbrev pub decreases-loop-rows : goal.decreases-loop-rows
decreases-loop-rows g l = length l.edits.rows

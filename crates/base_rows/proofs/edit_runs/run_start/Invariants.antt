use Rattle.std.proofs.Common.{◌<◌, ◌≤◌, length, drop}
use Rattle.base_rows.specs.Runs.{AreRun}
use Rattle.base_rows.proofs.edit_runs.run_start.Given as goal

abbrev pub invariant-loop-first : goal.invariant-loop-first
invariant-loop-first g l = record {
  start : l.start ≤ l.first;
  end : l.first < length l.edits;
  run : AreRun (drop l.first l.edits);
}

abbrev pub decreases-loop-first : goal.decreases-loop-first
decreases-loop-first g l = l.first

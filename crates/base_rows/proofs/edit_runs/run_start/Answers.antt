use Rattle.std.proofs.Common.{◌-◌, length, arith}
use Rattle.base_rows.proofs.EditRunLaws.{run_last}
use Rattle.base_rows.proofs.edit_runs.run_start.Goals as goal

pub loop-first-init : goal.loop-first-init
loop-first-init g c = record {
  start = omega (arith, c.requires);
  end = omega (arith, c.requires);
  run = run_last c.args.edits.now (length c.args.edits.now - 1) (omega (arith, c.requires));
}

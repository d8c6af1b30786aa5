use Rattle.std.proofs.Common.{refl, rules}
use Rattle.run_common.proofs.Written.{on_err, none_yet, one_more, part_of}
use Rattle.run_reports.proofs.rows.write_rows.Goals as goal

pub rows-init : goal.rows-init
rows-init g c = record {
  written = λ tells. none_yet g.R.ReportRow.text c.args.rows.now (g.D.Door.view c.args.door.now).state;
  writes = refl;
  turns = refl;
  reads = refl;
}

pub rows-preserved : goal.rows-preserved
rows-preserved g c = record {
  written = λ tells. one_more g.R.ReportRow.text c.args.rows.now c.rows.row-index c.row-item.result (g.D.Door.view c.args.door.now).state (g.D.Door.view c.rows.door).state (g.D.Door.view c.write_row.new.door).state
      c.rows-test.true c.row-item.is (c.rows.invariant.written tells) (c.in_ok-write_row.ensures.ok tells);
  writes = search rules;
  turns = search rules;
  reads = search rules;
}

pub returns-in_err-write_row-clause-part : goal.returns-in_err-write_row-clause-part
returns-in_err-write_row-clause-part g c = λ tells. on_err c.from_residual.result
    (part_of g.R.ReportRow.text c.args.rows.now c.rows.row-index c.row-item.result (g.D.Door.view c.args.door.now).state (g.D.Door.view c.rows.door).state (g.D.Door.view c.write_row.new.door).state
    c.rows-test.true c.row-item.is (c.rows.invariant.written tells) (c.in_err-write_row.ensures.part tells))

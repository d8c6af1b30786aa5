use Rattle.run_common.specs.Status.{status_number}
use Rattle.mud_desk.specs.DeskState.{tables_of}
use Rattle.run_reports.proofs.Runs.{writes_table}
use Rattle.run_reports.proofs.table.report_desk.Goals as goal

pub returns-clause-writes : goal.returns-clause-writes
returns-clause-writes g c = λ tells.
    writes_table c.args.kind g.C.Clock.tells (g.C.Clock.moments c.args.clock.now) (g.D.Door.view c.args.door.now).state (g.D.Door.view c.report_table-status.new.door).state (status_number c.report_table-status.result)
    (tables_of c.args.desk.state) c.ask_clock-now.result (c.ask_clock-now.ensures.moment)
    c.report_table-status.ensures.statuses (c.report_table-status.ensures.done tells) (c.report_table-status.ensures.part tells)

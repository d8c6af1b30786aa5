use Rattle.mud_desk.specs.DeskState.{tables_of}
use Rattle.table_model.specs.Things.{thing_at}
use Rattle.run_reports.proofs.ExportLaws.Things.{sources_there}
use Rattle.run_reports.proofs.export.sources.sources_of.Goals as goal

pub returns : goal.returns
returns g c =
    let state = c.args.desk.now.state in
    sources_there state c.rules.ensures.compiled c.args.moment c.locals.result.now c.locals.ensures (thing_at c.args.mac (tables_of state).tables.things)
    c.in-Some.from c.in-Some-rules.to c.in-Some.ensures.rules c.in-Some-rules.ensures.rules

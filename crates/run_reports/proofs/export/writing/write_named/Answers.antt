use Rattle.run_reports.specs.Export.Sources.{source_text}
use Rattle.run_common.proofs.Written.{on_err, part_of}
use Rattle.run_reports.proofs.ExportLaws.Results.{one_there}
use Rattle.run_reports.proofs.export.writing.write_named.Goals as goal

pub returns-in_err-write_list-clause-part : goal.returns-in_err-write_list-clause-part
returns-in_err-write_list-clause-part g c = λ tells. on_err c.from_residual.result
    (part_of (source_text c.args.sources.now) c.args.names.now c.lists.list-index _ (g.D.Door.view c.args.door.now).state (g.D.Door.view c.lists.door).state (g.D.Door.view c.write_list.new.door).state
    c.lists-test.true (one_there c.args.names.now c.lists.list-index _ c.lists-test.true) (c.lists.invariant.written tells) (c.in_err-write_list.ensures.part tells))

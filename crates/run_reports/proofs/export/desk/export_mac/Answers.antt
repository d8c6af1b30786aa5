use Rattle.std.proofs.Common.{List, inr, refl, sym, ap, ◌∙◌}
use Rattle.run_common.specs.Status.{status_number}
use Rattle.mud_desk.specs.DeskState.{tables_of}
use Rattle.std.specs.Option.{option_map}
use Rattle.table_model.specs.declared.thing.Thing.{Thing}
use Rattle.table_model.specs.Things.{thing_at}
use Rattle.run_reports.specs.Export.Sources.{is_held}
use Rattle.mud_world.specs.Clock.{next_moment}
use Rattle.run_reports.proofs.ExportLaws.Things.{wrote_fault}
use Rattle.run_reports.proofs.ExportLaws.Runs.{writes_desk}
use Rattle.run_reports.proofs.export.desk.export_mac.Goals as goal

pub returns-in-None-clause-writes : goal.returns-in-None-clause-writes
returns-in-None-clause-writes g c = λ tells.
    let desk = tables_of c.args.desk.now.state in
    let moments = g.C.Clock.moments c.args.clock.now in
    let old = (g.D.Door.view c.args.door.now).state in
    let new = (g.D.Door.view c.refuse_thing.new.door).state in
    let status = status_number c.refuse_thing.result in
    let run = c.refuse_thing.ensures in
    writes_desk c.args.mac g.C.Clock.tells moments old new status desk (next_moment moments) (λ told. refl) (inr run.statuses)
    (wrote_fault desk c.args.mac (next_moment moments) old new status (sym c.in-None.is ∙ c.held_of.ensures ∙ ap (λ (things : List Thing). option_map is_held (thing_at c.args.mac things)) c.things.ensures) run.statuses (run.done tells) (run.part tells))

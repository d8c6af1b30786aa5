use Rattle.std.proofs.Common.{ap}
use Rattle.run_common.specs.Status.{status_number}
use Rattle.mud_world.specs.View.{viewed}
use Rattle.mud_desk.specs.DeskState.{tables_of}
use Rattle.run_desk.proofs.Refusals.{runs_refused}
use Rattle.run_reports.proofs.ExportLaws.Runs.{opened_run, refused_export}
use Rattle.run_reports.proofs.export.store.export_store.Goals as goal

pub returns-in-Ok-clause-exported : goal.returns-in-Ok-clause-exported
returns-in-Ok-clause-exported g c =
    let door = g.D.Door in
    let clock = g.C.Clock in
    let old = c.args.door.now in
    let new = c.export_desk.new.door in
    let desk = c.in-Ok.desk in
    let store = c.in-Ok.ensures in
    let run = c.export_desk.ensures in
    opened_run g.K.Keeper c.args.keeper desk.keeper c.args.mac door.tells clock.tells (clock.moments c.args.clock.now)
    (door.view old)
    (door.view new)
    (status_number c.export_desk.result.0)
    (tables_of desk.state) store.tables store.sound store.kept store.steady store.told store.rests
    run.statuses run.fault run.steady run.writes run.turns run.reads
    c.export_desk.result.1 run.keeper

pub returns-in-Err-clause-exported : goal.returns-in-Err-clause-exported
returns-in-Err-clause-exported g c =
    let door = g.D.Door in
    let clock = g.C.Clock in
    let old = c.args.door.now in
    let new = c.refuse_store.new.door in
    let store = c.in-Err.ensures in
    let run = c.refuse_store.ensures in
    refused_export g.K.Keeper c.args.keeper c.in-Err.keeper c.args.mac door.tells clock.tells (clock.moments c.args.clock.now) (door.view old) (door.view new) (status_number c.refuse_store.result)
    (runs_refused g.K.Keeper c.args.keeper c.in-Err.keeper door.tells (door.view old) (door.view new) (status_number c.refuse_store.result)
    c.in-Err.fault store.bad store.left store.crash store.cause store.untold
    run.statuses run.fault run.steady run.done run.part (λ call. ap (λ d. (door.view d).state) (run.untouched call)) run.turns run.reads)

use Rattle.std.proofs.Common.{ap, refl}
use Rattle.run_common.specs.Status.{status_number}
use Rattle.mud_world.specs.View.{viewed}
use Rattle.mud_world.specs.View.{outside, spool_viewed}
use Rattle.run_desk.proofs.Refusals.{runs_refused}
use Rattle.run_changes.proofs.ImportLaws.Stores.{imported_run, refused_import}
use Rattle.run_changes.proofs.import.store.import_store.Goals as goal

pub returns-in-Ok : goal.returns-in-Ok
returns-in-Ok g c =
    let door = g.D.Door in
    let spool = g.P.Spool in
    let clock = g.C.Clock in
    let old = c.args.door.now in
    let new = c.import_files-status.new.door in
    let desk = c.in-Ok.desk in
    let after = c.import_files-status.new.desk in
    let store = c.in-Ok.ensures in
    let run = c.import_files-status.ensures in
    imported_run g.K.Keeper c.args.keeper (door.tells × (spool.tells × clock.tells))
    (outside (door.view old)
    (spool_viewed (spool.view c.args.spool.now).files (spool.view c.args.spool.now).faults (spool.view c.args.spool.now).failed) (clock.moments c.args.clock.now))
    (outside (door.view new)
    (spool_viewed (spool.view c.import_files-status.new.spool).files (spool.view c.import_files-status.new.spool).faults (spool.view c.import_files-status.new.spool).failed) (clock.moments c.import_files-status.new.clock))
    (status_number c.import_files-status.result)
    desk after store.tables store.sound store.begun store.steady store.told
    run.stays c.lists_are_sound.ensures run.statuses run.fault run.steady run.keeper run.keeper_steady
    (λ told. run.done told.0 told.1.0 told.1.1) (λ told. run.part told.0 told.1.0 told.1.1) (λ told. run.same told.1.0) run.turns run.reads
    c.close.result c.close.ensures

pub returns-in-Err : goal.returns-in-Err
returns-in-Err g c =
    let door = g.D.Door in
    let spool = g.P.Spool in
    let clock = g.C.Clock in
    let old = c.args.door.now in
    let new = c.refuse_store.new.door in
    let store = c.in-Err.ensures in
    let run = c.refuse_store.ensures in
    refused_import g.K.Keeper c.args.keeper c.in-Err.keeper (door.tells × (spool.tells × clock.tells))
    (outside (door.view old)
    (spool_viewed (spool.view c.args.spool.now).files (spool.view c.args.spool.now).faults (spool.view c.args.spool.now).failed) (clock.moments c.args.clock.now))
    (outside (door.view new)
    (spool_viewed (spool.view c.args.spool.now).files (spool.view c.args.spool.now).faults (spool.view c.args.spool.now).failed) (clock.moments c.args.clock.now))
    (status_number c.refuse_store.result)
    (runs_refused g.K.Keeper c.args.keeper c.in-Err.keeper (door.tells × (spool.tells × clock.tells)) (door.view old) (door.view new) (status_number c.refuse_store.result)
    c.in-Err.fault store.bad store.left store.crash store.cause store.untold
    run.statuses run.fault run.steady (λ told. run.done told.0) (λ told. run.part told.0) (λ call. ap (λ d. (door.view d).state) (run.untouched call)) run.turns run.reads)
    refl refl

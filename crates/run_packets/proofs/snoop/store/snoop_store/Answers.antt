use Rattle.std.proofs.Common.{ap}
use Rattle.run_common.specs.Status.{status_number}
use Rattle.run_desk.proofs.Refusals.{runs_refused}
use Rattle.run_packets.proofs.SnoopLaws.Stored.{snooped_run, refused_snoop}
use Rattle.run_packets.proofs.snoop.store.snoop_store.Goals as goal

pub returns-in-Ok : goal.returns-in-Ok
returns-in-Ok g c =
    let door = g.D.Door in
    let old = c.args.door.now in
    let new = c.snoop_capture-status.new.door in
    let desk = c.in-Ok.desk in
    let after = c.snoop_capture-status.new.desk in
    let store = c.in-Ok.ensures in
    let run = c.snoop_capture-status.ensures in
    snooped_run g.K.Keeper c.args.keeper door.tells
    (door.view old)
    (door.view new)
    (status_number c.snoop_capture-status.result)
    desk after store.tables store.sound store.begun store.steady store.told
    run.stays c.lists_are_sound.ensures run.statuses run.fault run.steady run.keeper run.keeper_steady
    run.done run.part run.taken run.turns
    c.close.result c.close.ensures

pub returns-in-Err : goal.returns-in-Err
returns-in-Err g c =
    let door = g.D.Door in
    let old = c.args.door.now in
    let new = c.refuse_store.new.door in
    let store = c.in-Err.ensures in
    let run = c.refuse_store.ensures in
    refused_snoop g.K.Keeper c.args.keeper c.in-Err.keeper door.tells (door.view old) (door.view new) (status_number c.refuse_store.result)
    (runs_refused g.K.Keeper c.args.keeper c.in-Err.keeper door.tells (door.view old) (door.view new) (status_number c.refuse_store.result)
    c.in-Err.fault store.bad store.left store.crash store.cause store.untold
    run.statuses run.fault run.steady run.done run.part (λ call. ap (λ d. (door.view d).state) (run.untouched call)) run.turns run.reads)

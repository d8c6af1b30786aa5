use Rattle.std.proofs.Common.{ap}
use Rattle.run_common.specs.Status.{status_number}
use Rattle.mud_world.specs.View.{viewed}
use Rattle.mud_desk.specs.DeskState.{tables_of}
use Rattle.run_desk.proofs.Refusals.{runs_refused}
use Rattle.run_changes.proofs.ServingLaws.Refusals.{memory_none, refused_none}
use Rattle.run_changes.proofs.ServingLaws.Replays.{replays_none, replays_opened}
use Rattle.run_changes.proofs.serving.replay.replay_store.Goals as goal

pub returns-in-Ok-new-clause-replayed : goal.returns-in-Ok-new-clause-replayed
returns-in-Ok-new-clause-replayed g c =
    let door = g.D.Door in
    let old = c.args.door.now in
    let new = c.replay_desk.new.door in
    let desk = c.in-Ok.desk in
    let store = c.in-Ok.ensures in
    let run = c.replay_desk.ensures in
    replays_opened g.K.Keeper door.tells c.args.keeper c.replay_desk.result.1
    (door.view old)
    (door.view new)
    (status_number c.replay_desk.result.0)
    (tables_of desk.state) desk.keeper store.tables store.sound store.steady store.told
    (run.replays (tables_of desk.state) store.begun) run.told

pub returns-in-Err-new-clause-replayed : goal.returns-in-Err-new-clause-replayed
returns-in-Err-new-clause-replayed g c =
    let door = g.D.Door in
    let old = c.args.door.now in
    let desk = c.in-Ok.desk in
    let store = c.in-Ok.ensures in
    replays_none g.K.Keeper door.tells c.args.keeper c.close.result
    (door.view old)
    (door.view old)
    5
    (memory_none g.K.Keeper c.args.keeper desk.keeper door.tells
    (door.view old)
    (tables_of desk.state) store.tables store.sound store.kept store.steady store.told store.rests c.close.result c.close.ensures)

pub returns-in-Err-clause-replayed : goal.returns-in-Err-clause-replayed
returns-in-Err-clause-replayed g c =
    let door = g.D.Door in
    let old = c.args.door.now in
    let new = c.refuse_store.new.door in
    let store = c.in-Err.ensures in
    let run = c.refuse_store.ensures in
    replays_none g.K.Keeper door.tells c.args.keeper c.in-Err.keeper
    (door.view old)
    (door.view new)
    (status_number c.refuse_store.result)
    (refused_none g.K.Keeper c.args.keeper c.in-Err.keeper door.tells (door.view old) (door.view new) (status_number c.refuse_store.result)
    (runs_refused g.K.Keeper c.args.keeper c.in-Err.keeper door.tells (door.view old) (door.view new) (status_number c.refuse_store.result)
    c.in-Err.fault store.bad store.left store.crash store.cause store.untold
    run.statuses run.fault run.steady run.done run.part (λ call. ap (λ d. (door.view d).state) (run.untouched call)) run.turns run.reads))

use Rattle.std.proofs.Common.{ap, sym, ◌∙◌}
use Rattle.run_common.specs.Status.{status_number}
use Rattle.mud_desk.specs.DeskState.{tables_of}
use Rattle.run_desk.proofs.Refusals.{runs_refused}
use Rattle.run_drills.proofs.Stores.{drilled_run, full_run, refused_drill}
use Rattle.run_drills.proofs.store.run_drill.Goals as goal

pub returns-in-Ok-clause-drilled : goal.returns-in-Ok-clause-drilled
returns-in-Ok-clause-drilled g c =
    let door = g.D.Door in
    let old = c.args.door.now in
    let new = c.drill_desk.new.door in
    let desk = c.in-Ok.desk in
    let store = c.in-Ok.ensures in
    let tables = tables_of desk.state in
    drilled_run g.K.Keeper c.args.keeper desk.keeper door.tells
    (door.view old)
    (door.view new)
    (status_number c.drill_desk.result.0) c.args.packets
    tables store.tables store.steady store.told (sym c.holds_nothing.ensures ∙ c.if-holds_nothing.true)
    c.drill_desk.result.1 (rw store.begun at c.drill_desk.ensures.drilled)

pub returns-in-Ok-2-clause-drilled : goal.returns-in-Ok-2-clause-drilled
returns-in-Ok-2-clause-drilled g c =
    let door = g.D.Door in
    let old = c.args.door.now in
    let new = c.refuse_full.new.door in
    let desk = c.in-Ok.desk in
    let store = c.in-Ok.ensures in
    let run = c.refuse_full.ensures in
    full_run g.K.Keeper c.args.keeper desk.keeper door.tells
    (door.view old)
    (door.view new)
    (status_number c.refuse_full.result.0) c.args.packets
    (tables_of desk.state) store.tables store.steady store.told (sym c.holds_nothing.ensures ∙ c.if-holds_nothing.false) store.sound store.kept
    run.statuses run.fault run.steady run.done run.part run.turns run.reads c.refuse_full.result.1 run.keeper

pub returns-in-Err-clause-drilled : goal.returns-in-Err-clause-drilled
returns-in-Err-clause-drilled g c =
    let door = g.D.Door in
    let old = c.args.door.now in
    let new = c.refuse_store.new.door in
    let store = c.in-Err.ensures in
    let run = c.refuse_store.ensures in
    refused_drill g.K.Keeper c.args.keeper c.in-Err.keeper door.tells (door.view old) (door.view new) (status_number c.refuse_store.result) c.args.packets
    (runs_refused g.K.Keeper c.args.keeper c.in-Err.keeper door.tells (door.view old) (door.view new) (status_number c.refuse_store.result)
    c.in-Err.fault store.bad store.left store.crash store.cause store.untold
    run.statuses run.fault run.steady run.done run.part (λ call. ap (λ d. (door.view d).state) (run.untouched call)) run.turns run.reads)

use Rattle.std.proofs.Common.{ap}
use Rattle.run_common.specs.Status.{status_number}
use Rattle.mud_desk.specs.DeskState.{tables_of}
use Rattle.run_desk.proofs.Refusals.{runs_refused}
use Rattle.run_desk.proofs.Runs.{opened_over, refused_over}
use Rattle.desk_model.specs.Sessions.{opened}
use Rattle.run_packets.specs.Tally.Store.{output_of_tally}
use Rattle.run_packets.specs.Tally.Tallied.{begun, tally_step}
use Rattle.run_packets.proofs.tally.store.tally_store.Goals as goal

pub returns-in-Ok-clause-tallied : goal.returns-in-Ok-clause-tallied
returns-in-Ok-clause-tallied g c =
    let door = g.D.Door in
    let old = c.args.door.now in
    let new = c.tally_capture.new.door in
    let desk = c.in-Ok.desk in
    let store = c.in-Ok.ensures in
    let run = c.tally_capture.ensures in
    let tables = tables_of desk.state in
    opened_over g.K.Keeper c.args.keeper desk.keeper door.tells
    (door.view old)
    (door.view new)
    (status_number c.tally_capture.result.0) (λ tables. output_of_tally (opened tables)) tally_step (λ tables. begun (opened tables))
    tables store.tables store.sound store.kept store.steady store.told store.rests
    run.statuses run.fault run.steady (rw store.begun at run.done) (rw store.begun at run.part) (rw store.begun at run.taken) run.turns
    c.tally_capture.result.1 run.keeper

pub returns-in-Err-clause-tallied : goal.returns-in-Err-clause-tallied
returns-in-Err-clause-tallied g c =
    let door = g.D.Door in
    let old = c.args.door.now in
    let new = c.refuse_store.new.door in
    let store = c.in-Err.ensures in
    let run = c.refuse_store.ensures in
    refused_over g.K.Keeper c.args.keeper c.in-Err.keeper door.tells (door.view old) (door.view new) (status_number c.refuse_store.result) (λ tables. output_of_tally (opened tables)) tally_step (λ tables. begun (opened tables))
    (runs_refused g.K.Keeper c.args.keeper c.in-Err.keeper door.tells (door.view old) (door.view new) (status_number c.refuse_store.result)
    c.in-Err.fault store.bad store.left store.crash store.cause store.untold
    run.statuses run.fault run.steady run.done run.part (λ call. ap (λ d. (door.view d).state) (run.untouched call)) run.turns run.reads)

use Rattle.run_common.specs.Status.{status_number}
use Rattle.mud_world.specs.View.{viewed}
use Rattle.mud_world.specs.Kept.{faults_of}
use Rattle.run_changes.proofs.ServingLaws.Replays.{replayed}
use Rattle.run_changes.proofs.serving.replay.replay_desk.Goals as goal

pub returns-clause-replays : goal.returns-clause-replays
returns-clause-replays g c = λ tables is.
    let door = g.D.Door in
    let old = c.args.door.now in
    let new = c.serve_connection-end.new.door in
    let desk = c.args.desk in
    let after = c.serve_connection-end.new.console.desk in
    let run = c.serve_connection-end.ensures in
    replayed g.K.Keeper door.tells tables desk.state after.state (faults_of g.K.Keeper desk.keeper) after.keeper c.close.result c.serve_connection-end.result
    (door.view old)
    (door.view new)
    (status_number c.status_of.result)
    is run.stays.kept c.close.ensures c.status_of.ensures run.left run.served run.calls

use Rattle.std.proofs.Common.{◌≡◌, ℕ, List, refl, sym, ap, subst, rules}
use Rattle.std.specs.Prelude.{is_err}
use Rattle.run_common.specs.Status.{status_number}
use Rattle.mud_world.specs.View.{viewed}
use Rattle.mud_world.specs.Kept.{faults_of}
use Rattle.run_changes.specs.Serving.Serve.{ServesConnections, listening, clock_run}
use Rattle.run_changes.proofs.ServingLaws.Serves.{served_here, unbound}
use Rattle.run_changes.proofs.serving.serve.serve_desk.Goals as goal

pub returns-in_default-clause-serves : goal.returns-in_default-clause-serves
returns-in_default-clause-serves g c = λ tables is.
    let door = g.D.Door in
    let clock = g.C.Clock in
    let old = c.args.door.now in
    let new = c.bind.new.self in
    let desk = c.args.desk in
    let run = c.in_default.ensures in
    unbound g.K.Keeper door.tells clock.tells tables desk.state is c.close.result (listening c.args.port c.args.count)
    desk.keeper (clock.moments c.args.clock.now)
    (door.view old)
    (door.view new)
    4
    c.requires c.close.ensures refl run.cause (record { last = run.last; once = run.count }) run.err run.reads run.writes

pub returns-clause-serves : goal.returns-clause-serves
returns-clause-serves g c = λ tables is.
    let door = g.D.Door in
    let clock = g.C.Clock in
    let old = c.args.door.now in
    let mid = c.bind.new.self in
    let new = c.serve_connections-served.new.door in
    let desk = c.args.desk in
    let after = c.serve_connections-served.new.console in
    let bound = c.in-Ok.ensures in
    let run = c.serve_connections-served.ensures in
    let ended : c.clock-1.given.0 ≡ after.clock.now = first_of (search rules, cc) in
    subst (λ (moments : List ℕ). ServesConnections g.K.Keeper door.tells clock.tells tables (faults_of g.K.Keeper desk.keeper) c.close-2.result
    (listening c.args.port c.args.count) (clock_run (clock.moments c.args.clock.now) moments)
    (door.view old)
    (door.view new)
    (status_number c.status_of.result)) (sym (ap clock.moments ended))
    (served_here g.K.Keeper door.tells clock.tells tables desk.state is c.close-2.result (listening c.args.port c.args.count)
    after.desk.state (faults_of g.K.Keeper desk.keeper) after.desk.keeper (is_err c.serve_connections-served.result)
    (clock.moments c.args.clock.now) (clock.moments after.clock.now)
    (door.view old)
    (door.view mid)
    (door.view new)
    (status_number c.status_of.result)
    run.stays.kept c.close-2.ensures c.status_of.ensures bound.ok bound.cause bound.reads bound.writes
    run.left run.served run.calls)

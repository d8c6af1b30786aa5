use Rattle.std.proofs.Common.{refl}
use Rattle.run_common.specs.Status.{status_number}
use Rattle.run_drills.proofs.Lines.{lines_run, stopped_run}
use Rattle.run_drills.proofs.desk.drill_desk.Goals as goal

pub returns-in-Ok-clause-drilled : goal.returns-in-Ok-clause-drilled
returns-in-Ok-clause-drilled g c =
    let door = g.D.Door in
    let old = c.args.door.now in
    let new = c.write_lines.new.door in
    let run = c.write_lines.ensures in
    let after = c.run_commands-ran.new.desk in
    lines_run g.K.Keeper door.tells c.args.packets c.args.desk after c.lists_are_sound.ensures
    (door.view old)
    (door.view new)
    (status_number c.write_lines.result.0)
    c.in-Ok.ensures.all run.statuses run.fault run.steady run.done run.part run.turns run.reads c.write_lines.result.1 run.keeper

pub returns-in-Err-clause-drilled : goal.returns-in-Err-clause-drilled
returns-in-Err-clause-drilled g c =
    let door = g.D.Door in
    let old = c.args.door.now in
    let after = c.run_commands-ran.new.desk in
    stopped_run g.K.Keeper door.tells c.args.packets c.args.desk after c.lists_are_sound.ensures
    (door.view old)
    (door.view old)
    (status_number c.status.result)
    c.in-Err.stop c.in-Err.ensures.part c.status.ensures refl c.close.result c.close.ensures

use Rattle.std.proofs.Common.{length, ap, ◌∙◌}
use Rattle.mud_desk.specs.DeskState.{session_of}
use Rattle.run_drills.specs.Drill.{lines_in}
use Rattle.run_drills.proofs.Lines.{first_same, lines_of_desk, wrote_same}
use Rattle.run_drills.proofs.desk.write_lines.Goals as goal

pub returns-in-Ok-say-clause-done : goal.returns-in-Ok-say-clause-done
returns-in-Ok-say-clause-done g c = λ told zero.
    wrote_same (lines_in c.args.packets (session_of c.args.desk.state)) c.octets.result.now (g.D.Door.view c.args.door.now).state (g.D.Door.view c.say.new.door).state
    (c.octets.ensures ∙ lines_of_desk c.args.packets c.args.desk.state (length c.things.result.now) (length c.files.result.now) c.in-Ok.lines
    (ap length c.things.ensures) (ap length c.files.ensures) (rw c.into_parts-keeper.ensures.state at c.in-Ok.ensures))
    (c.in-Ok-say.ensures.ok told)

pub returns-clause-part : goal.returns-clause-part
returns-clause-part g c = λ told which.
    first_same (lines_in c.args.packets (session_of c.args.desk.state)) c.octets.result.now (g.D.Door.view c.args.door.now).state (g.D.Door.view c.say.new.door).state
    (c.octets.ensures ∙ lines_of_desk c.args.packets c.args.desk.state (length c.things.result.now) (length c.files.result.now) c.in-Ok.lines
    (ap length c.things.ensures) (ap length c.files.ensures) (rw c.into_parts-keeper.ensures.state at c.in-Ok.ensures))
    (c.in-Err.ensures.part told)

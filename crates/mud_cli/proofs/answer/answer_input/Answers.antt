use Rattle.std.proofs.Common.{◌∙◌, ap, List, ℕ}
use Rattle.mud_world.specs.Door.{put_out}
use Rattle.mud_cli.specs.Answers.{answer_to}
use Rattle.mud_cli.proofs.Runs.{writes_output, writes_part}
use Rattle.mud_cli.proofs.answer.answer_input.Goals as goal

pub returns-in-Ok-say-clause-done : goal.returns-in-Ok-say-clause-done
returns-in-Ok-say-clause-done g c = λ tells output.
    rw c.status_of.ensures
    (writes_output c.args.input c.in-Ok-answer_to.answer c.in-Ok.octets (g.D.Door.view c.args.door.now).state (g.D.Door.view c.read_whole.new.door).state (g.D.Door.view c.say.new.door).state
    (rw c.most_of.ensures at (c.in-Ok.ensures.octets tells))
    (c.in-Ok-answer_to.ensures ∙ ap (answer_to c.args.input) c.octets-2.ensures)
    (c.in-Ok-say.ensures.ok tells ∙ ap (λ (text : List ℕ). put_out text (g.D.Door.view c.read_whole.new.door).state) c.octets-3.ensures))

pub returns-clause-part : goal.returns-clause-part
returns-clause-part g c = λ tells output.
    writes_part c.args.input c.in-Ok-answer_to.answer c.in-Ok.octets (g.D.Door.view c.args.door.now).state (g.D.Door.view c.read_whole.new.door).state (g.D.Door.view c.say.new.door).state
    (rw c.most_of.ensures at (c.in-Ok.ensures.octets tells))
    (c.in-Ok-answer_to.ensures ∙ ap (answer_to c.args.input) c.octets-2.ensures)
    (rw c.octets-3.ensures at (c.in-Err.ensures.part tells))

use Rattle.desk_model.specs.Texts.Verdicts.{verdict_text}
use Rattle.console_answers.specs.Bodies.Verdicts.{verdict_body}
use Rattle.console_answers.proofs.BodiesLaws.Joins.{joined_verdict}
use Rattle.console_answers.proofs.bodies.verdicts.put_verdict.Goals as goal

pub returns : goal.returns
unfolding verdict_body
returns c = joined_verdict c.args.buffer.now (verdict_text c.args.verdict.now) c.put.new.self c.put_verdict_text.new.buffer c.put-2.new.self c.put.ensures c.put_verdict_text.ensures c.put-2.ensures

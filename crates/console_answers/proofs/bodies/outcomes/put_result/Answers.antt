use Rattle.console_answers.proofs.KeptLemmas.{kept_then}
use Rattle.console_answers.specs.Bodies.Outcomes.{result_body}
use Rattle.console_answers.proofs.bodies.outcomes.put_result.Goals as goal

pub returns : goal.returns
unfolding result_body
returns c = kept_then c.args.buffer.now _ _ _ _ (kept_then c.args.buffer.now _ _ _ _ c.put.ensures c.put_word.ensures) c.put-2.ensures

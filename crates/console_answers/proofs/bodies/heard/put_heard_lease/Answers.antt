use Rattle.console_answers.proofs.KeptLemmas.{kept_then}
use Rattle.console_answers.specs.Bodies.Heards.{heard_lease_body}
use Rattle.console_answers.proofs.bodies.heard.put_heard_lease.Goals as goal

pub returns : goal.returns
unfolding heard_lease_body
returns c = kept_then c.args.buffer.now _ _ _ _ (kept_then c.args.buffer.now _ _ _ _ (kept_then c.args.buffer.now _ _ _ _ (kept_then c.args.buffer.now _ _ _ _ c.put.ensures c.put_quoted.ensures) c.put-2.ensures) c.put_quoted-2.ensures) c.put_lease_end.ensures

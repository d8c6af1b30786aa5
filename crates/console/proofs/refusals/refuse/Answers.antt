use Rattle.console.proofs.Replying.{bad_body}
use Rattle.console.proofs.refusals.refuse.Goals as goal

pub returns-in-BadBody-clause-reply : goal.returns-in-BadBody-clause-reply
returns-in-BadBody-clause-reply c =
    bad_body c.args.nothing c.in-BadBody.fault c.plain-in-BadBody.result c.take.result c.take.new.self c.body_fault_body.result c.in-BadBody.is c.plain-in-BadBody.ensures c.body_fault_body.ensures c.take.ensures.reply

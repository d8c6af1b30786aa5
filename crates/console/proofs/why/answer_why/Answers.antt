use Rattle.console.specs.Replies.{reply}
use Rattle.console.proofs.Standing.{why_is}
use Rattle.console.proofs.why.answer_why.Goals as goal

pub returns-clause-reply : goal.returns-clause-reply
returns-clause-reply g c =
    why_is c.args.frame.now c.args.desk.now.state c.args.given c.why-findings.result c.told_endpoints-text.result (reply c.take.result c.take.new.self)
    c.why-findings.ensures.found c.why-findings.ensures.verdict c.told_endpoints-text.ensures c.take.ensures.reply

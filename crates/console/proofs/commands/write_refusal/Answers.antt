use Rattle.std.proofs.Common.{subst}
use Rattle.console_answers.specs.declared.status.Status.{Status}
use Rattle.console_listings.specs.Refusals as refusals
use Rattle.console.specs.Replies.{reply, IsOrWanted}
use Rattle.console.proofs.Replying.{made}
use Rattle.console.proofs.commands.write_refusal.Goals as goal

pub returns-clause-reply : goal.returns-clause-reply
returns-clause-reply c =
    let refusal = c.args.refusal.now in
    let written = reply c.take.result c.take.new.self in
    subst (λ (s : Status). IsOrWanted (reply s (refusals.refusal_body refusal)) written) c.refusal_status.ensures
    (made c.refusal_status.result (refusals.refusal_body refusal) c.refusal_body.result written c.refusal_body.ensures c.take.ensures.reply)

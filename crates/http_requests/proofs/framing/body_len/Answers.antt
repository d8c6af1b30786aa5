use Rattle.std.proofs.Common.{subst}
use Rattle.http_requests.specs.Values.{AreValues}
use Rattle.http_requests.proofs.Framings.{one_length, one_refusal}
use Rattle.http_requests.proofs.framing.body_len.Goals as goal

pub returns-in-One-clause-ok : goal.returns-in-One-clause-ok
returns-in-One-clause-ok c =
    one_length c.given_len.result c.args.method.now c.in-One.text.now c.args.lengths (λ list are. subst (AreValues list) c.in-One.is are) c.given_len.ensures.ok

pub returns-in-One-clause-err : goal.returns-in-One-clause-err
returns-in-One-clause-err c =
    one_refusal c.given_len.result c.args.method.now c.in-One.text.now c.args.lengths (λ list are. subst (AreValues list) c.in-One.is are) c.given_len.ensures.err

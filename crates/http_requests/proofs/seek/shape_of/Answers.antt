use Rattle.std.proofs.Common.{None, refl, ◌∙◌, ap, arith}
use Rattle.std.specs.Prelude.{◌==◌}
use Rattle.std.specs.List.{before_first}
use Rattle.http_requests.specs.Framing.{is_head}
use Rattle.http_requests.specs.Requests.{path_of}
use Rattle.http_requests.proofs.Shapes.{refusal_by, shape_is, framing_at}
use Rattle.http_requests.proofs.seek.shape_of.Goals as goal

pub returns-clause-ok : goal.returns-clause-ok
unfolding path_of
returns-clause-ok c = λ head are.
    let framed = framing_at c.in_ok-framing.ensures.ok c.of.ensures in (
      refusal_by c.args.from c.args.octets.now c.args.fields.now c.args.spans head None are framed.taken,
      shape_is c.args.from c.args.octets.now c.args.fields.now c.args.spans head c.in_ok-framing.framing _ are c.requires.method
          (c.path_span.ensures.ordered, omega (arith, c.path_span.ensures.end, c.requires.path.1)) framed refl
          (c.path_span.ensures.value ∙ ap (before_first (λ o. o == 63)) are.target) refl refl refl c.closes_by.ensures c.awaits_by.ensures (c.is_head.ensures ∙ ap is_head c.of-2.ensures),
    )

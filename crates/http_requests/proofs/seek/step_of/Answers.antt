use Rattle.std.proofs.Common.{◌≡◌, Some, sym, ap, ◌∙◌}
use Rattle.http_requests.specs.declared.fault.RequestFault.{RequestFault}
use Rattle.http_requests.specs.Framing.{is_head}
use Rattle.http_requests.proofs.Heads.{fault_by}
use Rattle.http_requests.proofs.Shapes.{refusal_by}
use Rattle.http_requests.proofs.seek.step_of.Goals as goal

pub returns-in-Err-clause-broken : goal.returns-in-Err-clause-broken
returns-in-Err-clause-broken c = λ fault e head are.
    let same : fault_by c.in-Err.framing c.is_head.result ≡ fault = cc in (
      refusal_by c.args.from c.args.octets.now c.args.fields.now c.args.spans head (Some fault.framing) are
          (c.in-Err.ensures.err ∙ ap (λ (f : RequestFault). Some f.framing) same),
      ap (λ (f : RequestFault). f.is_head) (sym same) ∙ c.is_head.ensures ∙ ap is_head (c.of.ensures ∙ are.method),
    )

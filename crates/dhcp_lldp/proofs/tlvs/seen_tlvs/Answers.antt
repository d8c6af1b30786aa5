use Rattle.std.proofs.Common.{◌∙◌, arith}
use Rattle.std.proofs.lemmas.Result.{err_from_is_err_and}
use Rattle.dhcp_lldp.specs.Lldp.{tlvs_of}
use Rattle.dhcp_lldp.proofs.TlvWalk.{walked_all, walked_tlv, walked_fault}
use Rattle.dhcp_lldp.proofs.tlvs.seen_tlvs.Goals as goal

pub returns-in_err-seen-in-Whole : goal.returns-in_err-seen-in-Whole
returns-in_err-seen-in-Whole c =
    let p = err_from_is_err_and c.from_residual.result c.from_residual.ensures.1 in
    rw (p.1, p.2) (walked_fault _ _ (record { kind = c.in-Whole.kind; content = c.in-Whole.content.now }) _ _ (c.in-Whole.ensures.1 c.tlvs.offset) c.in_err-seen-in-Whole.ensures.value ∙ c.tlvs.invariant.same ∙ walked_all (tlvs_of c.args.frame.now))

pub tlvs-preserved : goal.tlvs-preserved
tlvs-preserved c = record {
  same = walked_tlv _ _ (record { kind = c.in-Whole.kind; content = c.in-Whole.content.now }) _ _ (c.in-Whole.ensures.1 c.tlvs.offset) c.in_ok-seen-in-Whole.ensures.value ∙ c.tlvs.invariant.same;
  room = omega (arith, c.in-Whole.ensures.0);
  count = omega (arith, c.in_ok-seen-in-Whole.ensures.counted);
}

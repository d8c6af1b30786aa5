use Rattle.std.proofs.Common.{◌∙◌, arith}
use Rattle.std.proofs.lemmas.Result.{err_from_is_err_and}
use Rattle.dhcp_lldp.specs.Dhcp.{options_of}
use Rattle.dhcp_lldp.proofs.OptionWalk.{walked_all, walked_option, walked_fault}
use Rattle.dhcp_lldp.proofs.options.contents.Goals as goal

pub returns-in_err-contents-in-Whole : goal.returns-in_err-contents-in-Whole
returns-in_err-contents-in-Whole c =
    let p = err_from_is_err_and c.from_residual.result c.from_residual.ensures.1 in
    rw (p.1, p.2) (walked_fault _ _ (record { code = c.in-Whole.code; content = c.in-Whole.content.now }) _ _ (c.in-Whole.ensures.1 c.options.offset) c.in_err-contents-in-Whole.ensures ∙ c.options.invariant.same ∙ walked_all (options_of c.args.message.now))

pub options-preserved : goal.options-preserved
options-preserved c = record {
  same = walked_option _ _ (record { code = c.in-Whole.code; content = c.in-Whole.content.now }) _ _ (c.in-Whole.ensures.1 c.options.offset) c.in_ok-contents-in-Whole.ensures ∙ c.options.invariant.same;
  room = omega (arith, c.in-Whole.ensures.0);
}

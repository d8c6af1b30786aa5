use Rattle.std.proofs.Common.{◌∙◌, List, ap, length, arith}
use Rattle.acl_model.specs.declared.entry.Entry.{Entry}
use Rattle.acl_rows.specs.View.{wide_from}
use Rattle.acl_changes.proofs.PolicyLaws.{outgoing_count, incoming_count}
use Rattle.acl_changes.proofs.policies.CompiledPolicy.new.Goals as goal

pub wide_numbers-requires : goal.wide_numbers-requires
wide_numbers-requires c = omega (arith, outgoing_count c.args.policy c.requires, ap (λ (es : List Entry). length es) c.as_slice.ensures)

pub wide_numbers-requires-2 : goal.wide_numbers-requires-2
wide_numbers-requires-2 c = omega (arith, incoming_count c.args.policy c.requires, ap (λ (es : List Entry). length es) c.as_slice-2.ensures)

pub invariant_of-result : goal.invariant_of-result
invariant_of-result c = record {
  outgoing_is = c.in_ok-wide_outgoing.ensures ∙ ap (wide_from 1) c.as_slice.ensures;
  incoming_is = c.in_ok-wide_incoming.ensures ∙ ap (wide_from 1) c.as_slice-2.ensures;
  outgoing_counts = outgoing_count c.args.policy c.requires;
  incoming_counts = incoming_count c.args.policy c.requires;
}

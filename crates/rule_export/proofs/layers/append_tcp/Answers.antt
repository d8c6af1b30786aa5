use Rattle.std.proofs.Common.{◌++◌, sym, ap, ◌∙◌}
use Rattle.std.specs.Prelude.{codes}
use Rattle.acl_model.specs.declared.entry.Layer.{Layer}
use Rattle.rule_export.specs.Objects.{member_text}
use Rattle.rule_export.specs.Tests.{tcp_value}
use Rattle.rule_export.proofs.MemberLaws.{next_member, last_member, object_of, named}
use Rattle.rule_export.proofs.layers.append_tcp.Goals as goal

pub returns-clause-text : goal.returns-clause-text
unfolding tcp_value
returns-clause-text c =
    named _ _ _ _ c.in_ok-append_name.ensures
    (object_of _ _ c.in_ok-append.ensures.ok
    (next_member _ _ _ _ c.in_ok-none.ensures.text c.in_ok-none.ensures.next
    (next_member _ _ _ _ c.in_ok-none-2.ensures.text c.in_ok-none-2.ensures.next
    (next_member _ _ _ _ c.in_ok-none-3.ensures.text c.in_ok-none-3.ensures.next
    (last_member _ _ _ c.in_ok-append_port.ensures.text))))
    c.in_ok-append-2.ensures.ok)
    ∙ ap (λ (layer : Layer). c.args.line.now ++ member_text c.args.first (codes "tcp", tcp_value layer)) (sym c.in-Tcp.is)

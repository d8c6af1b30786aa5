use Rattle.rule_export.proofs.MemberLaws.{next_member, last_member, object_of}
use Rattle.rule_export.proofs.layers.append_range.Goals as goal
use Rattle.rule_export.specs.Tests.{test_text}

pub returns : goal.returns
unfolding test_text
returns c =
    object_of _ _ c.in_ok-append.ensures.ok
    (next_member _ _ _ _ c.in_ok-none.ensures.text c.in_ok-none.ensures.next (last_member _ _ _ c.in_ok-append_number.ensures.text))
    c.in_ok-append-2.ensures.ok

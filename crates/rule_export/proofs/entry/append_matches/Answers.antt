use Rattle.rule_export.specs.Tests.{matches_text}
use Rattle.rule_export.proofs.MemberLaws.{next_member, last_member, object_of}
use Rattle.rule_export.proofs.entry.append_matches.Goals as goal

pub returns : goal.returns
unfolding matches_text
returns c =
    object_of _ _ c.in_ok-append.ensures.ok
    (next_member _ _ _ _ c.in_ok-none.ensures.text c.in_ok-none.ensures.next
    (next_member _ _ _ _ c.in_ok-none-2.ensures.text c.in_ok-none-2.ensures.next
    (next_member _ _ _ _ c.in_ok-none-3.ensures.text c.in_ok-none-3.ensures.next
    (last_member _ _ _ c.in_ok-append_udp.ensures.text))))
    c.in_ok-append-2.ensures.ok

use Rattle.rule_export.specs.Tests.{header_members}
use Rattle.rule_export.proofs.MemberLaws.{next_member, last_member, object_of}
use Rattle.rule_export.proofs.header.append_tests.Goals as goal

pub returns : goal.returns
unfolding header_members
returns c =
    object_of _ _ c.in_ok-append.ensures.ok
    (next_member _ _ _ _ c.in_ok-none.ensures.text c.in_ok-none.ensures.next
    (next_member _ _ _ _ c.in_ok-none-2.ensures.text c.in_ok-none-2.ensures.next
    (next_member _ _ _ _ c.in_ok-none-3.ensures.text c.in_ok-none-3.ensures.next
    (next_member _ _ _ _ c.in_ok-none-4.ensures.text c.in_ok-none-4.ensures.next
    (next_member _ _ _ _ c.in_ok-none-5.ensures.text c.in_ok-none-5.ensures.next
    (next_member _ _ _ _ c.in_ok-none-6.ensures.text c.in_ok-none-6.ensures.next
    (last_member _ _ _ c.in_ok-append_octet.ensures.text)))))))
    c.in_ok-append-2.ensures.ok

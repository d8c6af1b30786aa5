use Rattle.std.proofs.Common.{List, ℕ}
use Rattle.acl_changes.specs.Spots.{spots_in}
use Rattle.acl_changes.proofs.SpotLaws.{both_sides}
use Rattle.acl_changes.proofs.index.KeyIndex.new.Goals as goal

pub returns : goal.returns
returns c = λ (p : List ℕ).
    both_sides c.new-groups.result.rows (spots_in c.add_side.new.groups.rows p) (spots_in c.add_side-2.new.groups.rows p) c.args.url.now p c.args.policy.now c.as_slice-outgoing.result.now c.as_slice-incoming.result.now
    c.new-groups.ensures.rows c.as_slice-outgoing.ensures c.as_slice-incoming.ensures (c.in_ok-add_side.ensures p) (c.in_ok-add_side-2.ensures p)

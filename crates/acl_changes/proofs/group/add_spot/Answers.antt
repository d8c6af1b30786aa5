use Rattle.std.proofs.Common.{List, ap, ◌++◌, ◌∷◌, [], ◌∙◌}
use Rattle.acl_model.specs.SortKeys.{text_sort_key}
use Rattle.acl_changes.specs.declared.group.EntrySpot.{EntrySpot}
use Rattle.acl_changes.specs.Spots.{group_sort_key}
use Rattle.acl_changes.proofs.SpotLaws.{added}
use Rattle.acl_changes.proofs.group.add_spot.Goals as goal

pub returns : goal.returns
unfolding group_sort_key
returns c =
    added c.args.groups.now.rows c.reserve.new.self.rows c.put.new.self.rows (text_sort_key c.args.key.now.kind c.args.key.now.text.now) _ c.args.spot c.rows-ascending.ensures.ascend
    c.in_ok-group.ensures.sort_key
    (c.in_ok-push.ensures.ok ∙ ap (λ (xs : List EntrySpot). xs ++ c.args.spot ∷ []) c.in_ok-group.ensures.spots)
    (c.in_ok-reserve.ensures.rows ∙ c.in_ok-group.ensures.rest) c.put.ensures.rows

use Rattle.std.proofs.Common.{sym, ap, ◌∙◌}
use Rattle.std.specs.Ordering.{is_eq}
use Rattle.base_rows.specs.Edits.{edit_sort_key}
use Rattle.acl_rows.specs.SortKeys.{peer_sort_key, row_sort_key}
use Rattle.acl_buckets.proofs.LastLaws.{under_is}
use Rattle.acl_buckets.proofs.row_parts.is_of.Goals as goal

pub returns : goal.returns
returns c =
    c.is_eq.ensures
    ∙ ap is_eq c.order_to_beginning.ensures
    ∙ sym (under_is (edit_sort_key row_sort_key) (peer_sort_key c.args.peer.owner c.args.peer.side c.args.peer.addr) c.args.edit.now)

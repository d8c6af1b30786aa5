use Rattle.std.proofs.Common.{sym}
use Rattle.base_rows.proofs.RowLaws.{sort_key_row_at}
use Rattle.acl_model.specs.SortKeys.{text_sort_key}
use Rattle.acl_changes.specs.Spots.{group_sort_key}
use Rattle.acl_changes.proofs.group.taken.Goals as goal

pub returns-in-Some-clause-sort_key : goal.returns-in-Some-clause-sort_key
returns-in-Some-clause-sort_key c = sort_key_row_at group_sort_key (text_sort_key c.args.key.now.kind c.args.key.now.text.now) c.args.groups.now.rows c.in-Some.kept (sym c.in-Some.ensures.row)

use Rattle.std.proofs.Common.{sym, ◌∙◌, ap}
use Rattle.base_rows.specs.Sortable.{set_row}
use Rattle.usage_tables.specs.Files.{url_of}
use Rattle.file_cache.proofs.Commits.{room_left, committed_row, committed_none}
use Rattle.file_cache.proofs.cache.commit_edit.Goals as goal

pub put-requires : goal.put-requires
put-requires c = room_left c.args.edit c.args.url c.remove-found.result c.in-Some.row _ _ (sym c.edited_row.ensures ∙ c.in-Some.is) c.requires.room c.remove-found.ensures.room

pub returns-in-Some : goal.returns-in-Some
returns-in-Some c =
    c.put.ensures.rows
    ∙ ap (set_row url_of c.in-Some.row) c.remove-found.ensures.rows
    ∙ committed_row c.args.files.now.rows c.requires.ascend c.args.edit c.args.url c.remove-found.result c.remove-found.ensures.row c.in-Some.row (sym c.edited_row.ensures ∙ c.in-Some.is)

pub returns-in_default : goal.returns-in_default
returns-in_default c =
    c.remove-found.ensures.rows ∙ committed_none c.args.files.now.rows c.requires.ascend c.args.edit c.args.url c.remove-found.result c.remove-found.ensures.row (sym c.edited_row.ensures ∙ c.in_default.is)

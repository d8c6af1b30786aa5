use Rattle.std.proofs.Common.{sym, ap, ◌∙◌}
use Rattle.base_rows.specs.Sortable.{comes_last}
use Rattle.usage_tables.specs.Files.{url_of}
use Rattle.file_cache.proofs.TakeLaws.{behind_full, behind_room}
use Rattle.file_cache.proofs.take.push.Goals as goal

pub returns-else-has_room-clause-taken : goal.returns-else-has_room-clause-taken
returns-else-has_room-clause-taken c = behind_full c.args.files.now.rows c.args.row (sym c.if-has_room.ensures)

pub returns-in-Ok-clause-taken : goal.returns-in-Ok-clause-taken
returns-in-Ok-clause-taken c =
    behind_room c.args.files.now.rows c.args.row c.push_last.result (sym c.if-has_room.ensures) (c.push_last.ensures.last ∙ ap (comes_last url_of c.args.row) c.reserve.ensures.rows)

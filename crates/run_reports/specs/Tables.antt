-- The tables that `report` writes, and of which one the clock is asked.
use Rattle.std.specs.Prelude.{ℕ, Bool, true, false, if◌then◌else◌, List, [], flat_map, Option, Some, None}
use Rattle.mud_world.specs.Clock.{next_moment, later_moments}
use Rattle.run_common.specs.Moments.{listing_moment}
use Rattle.run_words.specs.declared.command.ReportKind.{ReportKind}
use Rattle.run_words.specs.declared.command.ReportKind.TheVariants.{Things, Files, Classes, Locals, Names, Due}
use Rattle.usage_tables.specs.declared.cached_file.CachedFile.{CachedFile}
use Rattle.usage_tables.specs.Due.{is_due, due_urls}
use Rattle.desk_model.specs.DeskTables.{DeskTables}
use Rattle.run_reports.specs.Rows.{thing_lines, file_line, class_lines, local_line, name_lines, due_line}

-- ---- The clock

-- whether the table needs the moment now
abbrev pub asks_clock : ReportKind → Bool
asks_clock Things = false
asks_clock Files = false
asks_clock Classes = false
asks_clock Locals = false
asks_clock Names = false
asks_clock Due = true

-- what the clock gives, where it is asked
unfoldable pub clock_for : ReportKind → List ℕ → Option ℕ
clock_for kind moments = if asks_clock kind then Some (next_moment moments) else None

-- it is asked once
unfoldable pub moments_after : ReportKind → List ℕ → List ℕ
moments_after kind moments = if asks_clock kind then later_moments moments else moments

-- ---- The tables

-- the lines of the rows of a table, in the order in which they are kept
unfoldable pub table_text : ReportKind → Option ℕ → DeskTables → List ℕ
table_text Things clock desk = flat_map thing_lines desk.tables.things
table_text Files clock desk = flat_map file_line desk.files
table_text Classes clock desk = flat_map class_lines desk.tables.classes
table_text Locals clock desk = flat_map local_line desk.tables.locals
table_text Names clock desk = flat_map name_lines desk.tables.names
table_text Due clock desk = flat_map due_line (due_urls (listing_moment desk.stamp clock) desk.files)

-- the line of the URL of a row, where its file is to be fetched again
unfoldable pub due_part : ℕ → CachedFile → List ℕ
due_part now row = if is_due now row then due_line row.url else []

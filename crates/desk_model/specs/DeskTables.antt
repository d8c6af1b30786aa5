-- All that the manager holds: its tables, the usage files, and the moment of the last change.
use Rattle.std.specs.Prelude.{◌≡◌, ℕ, ◌≤◌, List, [], Option, Some, None}
use Rattle.table_model.specs.declared.thing.Thing.{Thing}
use Rattle.table_model.specs.Binds.{Binds}
use Rattle.table_model.specs.Tables.{Tables, IsSoundTables, with_binds}
use Rattle.usage_tables.specs.declared.cached_file.CachedFile.{CachedFile}
use Rattle.usage_tables.specs.Files.{IsSoundFiles}
use Rattle.usage_tables.specs.Limits.{last_moment}

-- the Things, classes, local networks and names; the usage files; and the stamp, the moment of the last change
pub record DeskTables : Type 0 where
  pub tables : Tables
  pub files : List CachedFile
  pub stamp : Option ℕ

-- a new desk holds nothing, and nothing of it was ever changed
unfoldable pub empty_desk : DeskTables
empty_desk = record { tables = record { things = []; classes = []; locals = []; names = [] }; files = []; stamp = None }

unfoldable pub with_things : List Thing → DeskTables → DeskTables
with_things things desk = record desk { tables = record desk.tables { things = things } }

unfoldable pub with_files : List CachedFile → DeskTables → DeskTables
with_files files desk = record desk { files = files }

-- the desk with other classes, local networks and names
unfoldable pub with_desk_binds : Binds → DeskTables → DeskTables
with_desk_binds binds desk = record desk { tables = with_binds binds desk.tables }

-- ---- What holds of every desk

abbrev pub IsStamp : Option ℕ → Type 0
IsStamp None = Unit {0}
IsStamp (Some moment) = moment ≤ last_moment

-- each list is sound, and the last change was at a moment
pub record IsSound (desk : DeskTables) : Type 0 where
  pub tables : IsSoundTables desk.tables
  pub files : IsSoundFiles desk.files
  pub stamp : IsStamp desk.stamp

-- both have the same lists, whenever they were changed
pub record HaveSameLists (before after : DeskTables) : Type 0 where
  pub tables : after.tables ≡ before.tables
  pub files : after.files ≡ before.files

-- The table of items, as the database describes it after
--   CREATE TABLE item (kind INTEGER NOT NULL, name BLOB NOT NULL, body BLOB NOT NULL, PRIMARY KEY (kind, name)) STRICT
-- in an empty database. An item's key is in the column `name`.
use Rattle.std.specs.Prelude.{ℕ, List, [], ◌∷◌, true, false, None, codes}
use Rattle.sqlite_value.specs.Keys.{plain}
use Rattle.sqlite.specs.Collation.TheVariants.{Binary}
use Rattle.sqlite.specs.declared.types.Value.TheVariants.{Null}
use Rattle.sqlite.specs.Kind.TheVariants.{Integer, Blob}
use Rattle.sqlite_schema.specs.declared.schema.Kind.{Kind}
use Rattle.sqlite_schema.specs.declared.schema.Column.{Column}
use Rattle.sqlite_schema.specs.declared.schema.Stamps.{Stamps}
use Rattle.sqlite_schema.specs.declared.schema.Index.{Index}
use Rattle.sqlite.specs.Table.{Table}
use Rattle.sqlite.specs.Schema.{Schema}

abbrev pub item_column : List ℕ → Kind → Column
item_column name kind = record { name = name; kind = kind; is_strict = true; not_null = true; default = Null; collation = Binary }

abbrev pub item_columns : List Column
item_columns = item_column (codes "kind") Integer ∷ item_column (codes "name") Blob ∷ item_column (codes "body") Blob ∷ []

abbrev pub no_stamps : Stamps
no_stamps = record { places = []; terms = []; formats = [] }

-- It is tree 0, and the index of its key tree 1. Column 0 is the rowid.
abbrev pub item_table : Table
item_table = record {
  name = codes "item";
  tree = 0;
  columns = item_columns;
  key = None;
  primary = 1 ∷ 2 ∷ [];
  uniques = (1 ∷ 2 ∷ []) ∷ [];
  orders = plain ∷ [];
  checks = [];
  references = [];
  computed = [];
  stamps = no_stamps;
  is_counted = false;
}

-- the index that SQL makes for the key
abbrev pub item_index : Index
item_index = record { name = codes "sqlite_autoindex_item_1"; tree = 1; table = 0; columns = 1 ∷ 2 ∷ []; order = plain; is_unique = true }

abbrev pub item_schema : Schema
item_schema = record { tables = item_table ∷ []; indexes = item_index ∷ []; views = [] }

-- the schema of a database with no table
abbrev pub no_schema : Schema
no_schema = record { tables = []; indexes = []; views = [] }

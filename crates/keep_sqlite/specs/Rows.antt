-- The items that the rows of the table say.
use Rattle.std.specs.Prelude.{◌≡◌, ◌⊎◌, ℕ, ◌^◌, ◌<◌, ℤ, pos, Bool, false, List, [], ◌∷◌}
use Rattle.std.specs.List.{AllByRecursion}
use Rattle.sqlite.specs.declared.types.Value.{Value}
use Rattle.sqlite.specs.declared.types.Value.TheVariants.{Int, Blob}
use Rattle.sqlite_value.specs.Order.{Row, column}
use Rattle.sqlite_trees.specs.Tree.{Trees, rowid}
use Rattle.sqlite.specs.Edit.{id_in}
use Rattle.sqlite.specs.Effect.{Database, IsDatabase}
use Rattle.sqlite.specs.Table.{Table}
use Rattle.base_rows.specs.Sortable.{set_row}
use Rattle.mud_world.specs.declared.item.Item.{Item}
use Rattle.mud_world.specs.Items.{sort_key_of}
use Rattle.keep_sqlite.specs.Table.{item_schema, no_schema}

abbrev pub kind_in : Value → ℕ
kind_in (Int (pos kind)) = kind
kind_in _ = 0

abbrev pub octets_in : Value → List ℕ
octets_in (Blob octets) = octets
octets_in _ = []

-- the item that a row of the table says; column 0 is the rowid
abbrev pub item_in : Row → Item
item_in row = record { kind = kind_in (column row 1); key = octets_in (column row 2); body = octets_in (column row 3) }

-- the items of the rows, sorted by kind and then key, whatever the order of the rows
abbrev pub items_in : List Row → List Item
items_in [] = []
items_in (row ∷ rows) = set_row sort_key_of (item_in row) (items_in rows)

-- the row of an item: the rowid, and then the columns
abbrev pub stored : ℤ → Item → Row
stored id item = Int id ∷ Int (pos item.kind) ∷ Blob item.key ∷ Blob item.body ∷ []

-- A row is that of an item, whose kind is an octet.
abbrev pub IsItemRow : Row → Type 0
IsItemRow row = (id : ℤ) × (item : Item) × (item.kind < 2 ^ 8) × (row ≡ stored id item)

abbrev pub id_of : Row → ℤ
id_of row = id_in (rowid row)

-- no two rows have one rowid
abbrev pub AreDistinct : List Row → Type 0
AreDistinct [] = Unit {0}
AreDistinct (row ∷ rows) = AllByRecursion (λ other. id_of row ≡ id_of other → ⊥) rows × AreDistinct rows

-- The database has the table of items and nothing else, obeys its rules, and each row of the table is that of an item.
pub record HoldsItems (db : Database) : Type 0 where
  pub sound : IsDatabase db
  pub schema : db.schema ≡ item_schema
  pub rows : AllByRecursion IsItemRow (db.trees 0)
  pub distinct : AreDistinct (db.trees 0)

-- the items of a database that holds items
abbrev pub items_of : Database → List Item
items_of db = items_in (db.trees 0)

abbrev pub where_tables : List Table → List Item → List Item
where_tables [] items = []
where_tables (table ∷ tables) items = items

-- the items of a database that holds items or has no table
abbrev pub held_items : Database → List Item
held_items db = where_tables db.schema.tables (items_of db)

-- The database holds items or, before an `open` has answered Ok, it has no table.
abbrev pub MayHold : Bool → Database → Type 0
MayHold has_opened db = HoldsItems db ⊎ ((has_opened ≡ false) × (db.schema ≡ no_schema))

-- The trees are those of a database that holds these items.
abbrev pub AreTreesOf : List Item → Trees → Type 0
AreTreesOf items trees = HoldsItems (record { schema = item_schema; trees = trees }) × (items_in (trees 0) ≡ items)

-- The trees that are left where the table is made: there was none, and now it has no row.
abbrev pub AreMadeTrees : Database → Trees → Type 0
AreMadeTrees old trees = (old.schema ≡ no_schema) × AreTreesOf [] trees

-- What an `open` may do to a database: it makes the table where there is none, without a row, and else changes nothing.
abbrev pub MayMake : Database → Database → Type 0
MayMake old new = (new ≡ old) ⊎ ((old.schema ≡ no_schema) × HoldsItems new × (items_of new ≡ []))

-- Schemas and their parts, from what each field is.
use Rattle.std.proofs.Common.{◌≡◌, ℕ, true, false, List, [], ◌∷◌, codes, None}
use Rattle.sqlite.specs.declared.types.Value.TheVariants.{Null}
use Rattle.sqlite.specs.Collation.TheVariants.{Binary}
use Rattle.sqlite_value.specs.declared.keys.Order.{Order}
use Rattle.sqlite_schema.specs.declared.schema.Kind.{Kind}
use Rattle.sqlite_schema.specs.declared.schema.Column.{Column}
use Rattle.sqlite_schema.specs.declared.schema.Index.{Index}
use Rattle.sqlite_schema.specs.declared.schema.Stamps.{Stamps}
use Rattle.sqlite_schema.specs.declared.schema.Table.{Table}
use Rattle.sqlite_schema.specs.declared.schema.View.{View}
use Rattle.sqlite_schema.specs.declared.schema.Schema.{Schema}
use Rattle.keep_sqlite.specs.Table.{item_column, item_columns, item_index, item_table, no_stamps}

pub order_is : (o : Order) → o.digits ≡ 0 → o ≡ item_index.order
order_is o e = λ i. record { digits = e i }

pub column_is : (c : Column) (n : List ℕ) (k : Kind) → c.name ≡ n → c.kind ≡ k → c.is_strict ≡ true → c.not_null ≡ true → c.default ≡ Null → c.collation ≡ Binary → c ≡ item_column n k
column_is c n k e1 e2 e3 e4 e5 e6 = λ i. record { name = e1 i; kind = e2 i; is_strict = e3 i; not_null = e4 i; default = e5 i; collation = e6 i }

pub index_is : (x : Index) → x.name ≡ codes "sqlite_autoindex_item_1" → x.tree ≡ 1 → x.table ≡ 0 → x.columns ≡ 1 ∷ 2 ∷ [] → x.order ≡ item_index.order → x.is_unique ≡ true → x ≡ item_index
index_is x e1 e2 e3 e4 e5 e6 = λ i. record { name = e1 i; tree = e2 i; table = e3 i; columns = e4 i; order = e5 i; is_unique = e6 i }

pub stamps_is : (s : Stamps) → s.places ≡ [] → s.terms ≡ [] → s.formats ≡ [] → s ≡ no_stamps
stamps_is s e1 e2 e3 = λ i. record { places = e1 i; terms = e2 i; formats = e3 i }

pub table_is : (t : Table) → t.name ≡ codes "item" → t.tree ≡ 0 → t.columns ≡ item_columns → t.key ≡ None → t.primary ≡ 1 ∷ 2 ∷ [] → t.uniques ≡ item_table.uniques → t.orders ≡ item_table.orders → t.checks ≡ [] → t.references ≡ [] → t.computed ≡ []
    → t.stamps ≡ no_stamps → t.is_counted ≡ false → t ≡ item_table
table_is t e1 e2 e3 e4 e5 e6 e7 e8 e9 e10 e11 e12 =
    λ i. record { name = e1 i; tree = e2 i; columns = e3 i; key = e4 i; primary = e5 i; uniques = e6 i; orders = e7 i; checks = e8 i; references = e9 i; computed = e10 i; stamps = e11 i; is_counted = e12 i }

pub schema_is : (s : Schema) (tables : List Table) (indexes : List Index) (views : List View) → s.tables ≡ tables → s.indexes ≡ indexes → s.views ≡ views → s ≡ record { tables = tables; indexes = indexes; views = views }
schema_is s tables indexes views e1 e2 e3 = λ i. record { tables = e1 i; indexes = e2 i; views = e3 i }

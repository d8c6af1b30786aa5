-- What the answers of the two selections show: the columns of the items, and the rowids.
use Rattle.std.specs.Prelude.{◌≡◌, ◌^◌, ◌<◌, ℤ, pos, List, [], ◌∷◌}
use Rattle.std.specs.List.{AllByRecursion}
use Rattle.sqlite.specs.declared.types.Value.TheVariants.{Int, Blob}
use Rattle.sqlite_value.specs.Order.{Row, column}
use Rattle.sqlite_value.specs.Keys.{ascending}
use Rattle.sqlite.specs.Collation.TheVariants.{Binary}
use Rattle.sqlite.specs.Query.{key_cmp}
use Rattle.std.specs.declared.cmp.Ordering.{Ordering}
use Rattle.sqlite.specs.Edit.{id_in}
use Rattle.mud_world.specs.declared.item.Item.{Item}
use Rattle.keep_sqlite.specs.Rows.{kind_in, octets_in, AreDistinct}

-- the item that a row of the answer shows
abbrev pub item_shown : Row → Item
item_shown row = record { kind = kind_in (column row 0); key = octets_in (column row 1); body = octets_in (column row 2) }

-- a row of the table as the selections show it
abbrev pub shown_row : Row → Row
shown_row row = column row 1 ∷ column row 2 ∷ column row 3 ∷ []

abbrev pub shown_id : Row → Row
shown_id row = column row 0 ∷ []

-- how ORDER BY compares two rows of the answer that show items: by the kind, and then by the name
abbrev pub shown_cmp : Row → Row → Ordering
shown_cmp = key_cmp 0 (ascending Binary ∷ ascending Binary ∷ [])

-- how ORDER BY compares two rows of the answer that show rowids
abbrev pub id_cmp : Row → Row → Ordering
id_cmp = key_cmp 0 (ascending Binary ∷ [])

-- the number in a row that shows a rowid
abbrev pub number_shown : Row → ℤ
number_shown row = id_in (column row 0)

-- A row of the answer shows an item, whose kind is an octet.
pub record ShowsItem (row : Row) : Type 0 where
  pub low : (item_shown row).kind < 2 ^ 8
  pub kind : column row 0 ≡ Int (pos (item_shown row).kind)
  pub key : column row 1 ≡ Blob (item_shown row).key
  pub body : column row 2 ≡ Blob (item_shown row).body

-- A row shows a rowid.
pub record ShowsId (row : Row) : Type 0 where
  pub id : column row 0 ≡ Int (id_in (column row 0))

-- no number comes twice
abbrev pub AreUnequal : List ℤ → Type 0
AreUnequal [] = Unit {0}
AreUnequal (n ∷ ns) = AllByRecursion (λ m. n ≡ m → ⊥) ns × AreUnequal ns

-- The rows have rowids, each its own.
abbrev pub HaveIds : List Row → Type 0
HaveIds rows = AllByRecursion (λ row. ShowsId (shown_id row)) rows × AreDistinct rows

-- The rows show items.
abbrev pub HaveItems : List Row → Type 0
HaveItems rows = AllByRecursion (λ row. ShowsItem (shown_row row)) rows

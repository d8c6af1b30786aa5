-- Objects that are read by a table: which members are known there, and what is read, are one list of rows.
use Rattle.std.specs.Prelude.{ℕ, List, Option, Some}
use Rattle.mud_base.specs.Readings.{◌>>=◌, over, where_there}
use Rattle.serde_json.specs.Data.{Data}
use Rattle.usage_walk.specs.declared.member.Member.{Member}
use Rattle.usage_walk.specs.declared.row.Row.{Row}
use Rattle.usage_walk.specs.Reading.{Reading, under}
use Rattle.usage_walk.specs.Kinds.{object_where_there}
use Rattle.usage_walk.specs.Others.{all_known}

-- how the ways H of rows read a member of the object at a path, behind what came of the members before it
abbrev pub Ways : Type 0 → Type 0 → Type 0
Ways H A = H → List ℕ → Member → Data → A → Reading A

abbrev pub row : {H : Type 0} → Member → H → Row H
row member how = record { member = member; how = how }

-- the member of a row
unfoldable pub row_of : {H A : Type 0} → Ways H A → List ℕ → Data → A → Row H → Reading A
row_of ways path d so_far r = ways r.how path r.member d so_far

-- the members of the rows, in the order of the rows
unfoldable pub rows_of : {H A : Type 0} → Ways H A → List ℕ → List (Row H) → Data → A → Reading A
rows_of ways path rows d nothing = over (row_of ways path d) nothing rows

-- no member stands but those of the rows, and these are read in the order of the rows
unfoldable pub table_of : {H A : Type 0} → Ways H A → List ℕ → List (Row H) → Data → A → Reading A
table_of ways path rows d nothing = do
  _ ← all_known path rows d
  rows_of ways path rows d nothing

-- a member that is an object and is read by its table, where it is there
unfoldable pub container_at : {H A : Type 0} → Ways H A → List (Row H) → A → List ℕ → Member → Data → Reading (Option A)
container_at ways rows nothing path m d = do
  container ← object_where_there path m (Some d)
  where_there (λ c. table_of ways (under path m) rows c nothing) container

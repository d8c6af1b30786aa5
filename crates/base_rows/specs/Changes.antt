-- Changes of rows: one sort key is left, and then rows are put in.
use Rattle.std.specs.Prelude.{◌≡◌, ℕ, Bool, true, not, ◌&&◌, List, [], ◌∷◌, map, Option, Some, None, IfSome}
use Rattle.std.specs.List.{list_any, AllByRecursion}
use Rattle.base_rows.specs.Sortable.{same_sort_key, row_at, set_rows, without_row}

-- ---- A change

-- the sort key whose row goes, where one goes, and the rows that are put in after that, from the first to the last
pub record RowChange (R : Type 0) : Type 0 where
  pub gone : Option (List ℕ)
  pub sets : List R

-- the rows without the one of a sort key that goes
abbrev pub without_gone : {R : Type 0} → (R → List ℕ) → Option (List ℕ) → List R → List R
without_gone sort_key None rows = rows
without_gone sort_key (Some p) rows = without_row sort_key p rows

-- the rows after the change: what goes is gone before anything is put in
unfoldable pub changed : {R : Type 0} → (R → List ℕ) → RowChange R → List R → List R
changed sort_key change rows = set_rows sort_key change.sets (without_gone sort_key change.gone rows)

-- the row of the sort key that goes
abbrev pub gone_row : {R : Type 0} → (R → List ℕ) → Option (List ℕ) → List R → Option R
gone_row sort_key None rows = None
gone_row sort_key (Some p) rows = row_at sort_key p rows

-- the row that goes is there, and none that is put in is there already
pub record IsNeededChange {R : Type 0} (sort_key : R → List ℕ) (rows : List R) (change : RowChange R) : Type 0 where
  pub gone : IfSome change.gone (λ p. ¬ (row_at sort_key p rows ≡ None))
  pub sets : AllByRecursion (λ row. ¬ (row_at sort_key (sort_key row) rows ≡ Some row)) change.sets

-- ---- What it touches

-- the list behind what was found, where something was found
abbrev pub with_found : {A : Type 0} → Option A → List A → List A
with_found None xs = xs
with_found (Some x) xs = x ∷ xs

-- the sort keys that the change touches
unfoldable pub sort_keys_of : {R : Type 0} → (R → List ℕ) → RowChange R → List (List ℕ)
sort_keys_of sort_key change = with_found change.gone (map sort_key change.sets)

-- the rows that stand at these sort keys
abbrev pub rows_at : {R : Type 0} → (R → List ℕ) → List (List ℕ) → List R → List R
rows_at sort_key [] rows = []
rows_at sort_key (q ∷ qs) rows = with_found (row_at sort_key q rows) (rows_at sort_key qs rows)

-- the rows that stand at the sort keys that the change touches
unfoldable pub old_rows : {R : Type 0} → (R → List ℕ) → RowChange R → List R → List R
old_rows sort_key change rows = rows_at sort_key (sort_keys_of sort_key change) rows

-- no two elements pass the test
abbrev pub are_apart : {A : Type 0} → (A → A → Bool) → List A → Bool
are_apart near [] = true
are_apart near (x ∷ xs) = not (list_any (near x) xs) && are_apart near xs

-- the change touches no sort key twice
unfoldable pub is_plain : {R : Type 0} → (R → List ℕ) → RowChange R → Bool
is_plain sort_key change = are_apart same_sort_key (sort_keys_of sort_key change)

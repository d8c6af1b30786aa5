-- Edits of sorted rows: a row comes to its sort key, or the row of a sort key goes.
use Rattle.std.specs.Prelude.{◌≡◌, ℕ, Bool, Result, List, [], ◌∷◌, Option, Some, None, if◌then◌else◌}
use Rattle.std.specs.List.{AllByRecursion}
use Rattle.base_rows.specs.Sortable.{index_in, set_row, without_row}
use Rattle.base_rows.specs.declared.edit.Edit.{Edit}

-- the edit of a row that comes or goes
abbrev pub edit : {R : Type 0} → R → Bool → Result ℕ ℕ → Edit R
edit row comes found = record { row = row; comes = comes; found = found }

unfoldable pub edit_sort_key : {R : Type 0} → (R → List ℕ) → Edit R → List ℕ
edit_sort_key sort_key edit = sort_key edit.row

-- the row that stands at the sort key afterwards
unfoldable pub row_after : {R : Type 0} → Edit R → Option R
row_after edit = if edit.comes then Some edit.row else None

unfoldable pub edit_made : {R : Type 0} → (R → List ℕ) → Edit R → List R → List R
edit_made sort_key edit rows = if edit.comes then set_row sort_key edit.row rows else without_row sort_key (sort_key edit.row) rows

-- the rows with each edit made, from the last to the first
unfoldable pub edited : {R : Type 0} → (R → List ℕ) → List (Edit R) → List R → List R
edited sort_key [] rows = rows
edited sort_key (edit ∷ edits) rows = edit_made sort_key edit (edited sort_key edits rows)

-- each edit has the index that its sort key has in these rows
abbrev pub AreFound : {R : Type 0} → (R → List ℕ) → List R → List (Edit R) → Type 0
AreFound sort_key rows edits = AllByRecursion (λ edit. edit.found ≡ index_in sort_key (sort_key edit.row) rows) edits

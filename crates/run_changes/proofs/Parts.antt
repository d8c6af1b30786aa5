-- Parts of definitions that lemmas speak of.
use Rattle.std.specs.Prelude.{ℕ, List, [], ◌∷◌, if◌then◌else◌}
use Rattle.run_changes.specs.Import.Entries.{Entry}
use Rattle.std.specs.Ordering.{is_lt}
use Rattle.base_rows.specs.Sortable.{sort_key_cmp}

abbrev pub name_of : Entry → List ℕ
name_of entry = entry.name

abbrev pub with_name : List ℕ → List (List ℕ) → List (List ℕ)
with_name name [] = name ∷ []
with_name name (next ∷ names) = if is_lt (sort_key_cmp next name) then next ∷ with_name name names else name ∷ next ∷ names

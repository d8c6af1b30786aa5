-- Names in the order of their octets.
use Rattle.std.specs.Prelude.{ℕ, if◌then◌else◌, List, [], ◌∷◌}
use Rattle.std.specs.Ordering.{is_lt}
use Rattle.base_rows.specs.Sortable.{sort_key_cmp}

-- the names in order, each as often as it is there
unfoldable pub in_order : List (List ℕ) → List (List ℕ)
in_order [] = []
in_order (name ∷ names) = with_name name (in_order names)
  where
    -- the names, which are in order, with one more put in
    with_name : List ℕ → List (List ℕ) → List (List ℕ)
    with_name name [] = name ∷ []
    with_name name (next ∷ names) = if is_lt (sort_key_cmp next name) then next ∷ with_name name names else name ∷ next ∷ names

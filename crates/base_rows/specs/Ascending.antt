-- Whether rows are in the order of their sort keys, each sort key once, as a test.
use Rattle.std.specs.Prelude.{ℕ, Bool, true, ◌&&◌, List, [], ◌∷◌}
use Rattle.std.specs.List.{list_all}
use Rattle.std.specs.Ordering.{is_lt}
use Rattle.base_rows.specs.Sortable.{sort_key_cmp}

-- each row's sort key is before those of the rows after it
abbrev pub sort_keys_ascend : {R : Type 0} → (R → List ℕ) → List R → Bool
sort_keys_ascend sort_key [] = true
sort_keys_ascend sort_key (x ∷ xs) = list_all (is_before sort_key (sort_key x)) xs && sort_keys_ascend sort_key xs
  where
    -- the sort key is before the row's
    is_before : {R : Type 0} → (R → List ℕ) → List ℕ → R → Bool
    is_before sort_key p x = is_lt (sort_key_cmp p (sort_key x))

-- The test of ascending rows tells whether they ascend.
use Rattle.std.proofs.Common.{◌≡◌, ℕ, true, List, [], ◌∷◌, IsTrue, refl, ap}
use Rattle.std.specs.List.{list_all}
use Rattle.std.specs.Ordering.{is_lt}
use Rattle.base_rows.specs.Sortable.{sort_key_cmp, SortKeysAbove, SortKeysAscend}
use Rattle.base_rows.specs.Ascending.{sort_keys_ascend}
pub use Rattle.std.specs.Cmp.{both_ways}
use Rattle.base_rows.proofs.ListTests.{left_of, right_of, both}
use Rattle.base_rows.proofs.SortableLaws.{less_from_is_lt}
use Rattle.base_rows.proofs.Parts.{is_before}

module _ {R : Type 0} (sort_key : R → List ℕ) where
  above_from : (p : List ℕ) (rows : List R) → list_all (is_before sort_key p) rows ≡ true → SortKeysAbove sort_key p rows
  above_from p [] e = tt
  above_from p (x ∷ xs) e = (
    less_from_is_lt (sort_key_cmp p (sort_key x)) (left_of (is_before sort_key p x) (list_all (is_before sort_key p) xs) e),
    above_from p xs (right_of (is_before sort_key p x) (list_all (is_before sort_key p) xs) e),
  )

  above_to : (p : List ℕ) (rows : List R) → SortKeysAbove sort_key p rows → list_all (is_before sort_key p) rows ≡ true
  above_to p [] above = refl
  above_to p (x ∷ xs) above = both (is_before sort_key p x) (list_all (is_before sort_key p) xs) (ap is_lt above.0) (above_to p xs above.1)

  pub ascend_from : (rows : List R) → IsTrue (sort_keys_ascend sort_key rows) → SortKeysAscend sort_key rows
  ascend_from [] e = tt
  ascend_from (x ∷ xs) e = (
    above_from (sort_key x) xs (left_of (list_all (is_before sort_key (sort_key x)) xs) (sort_keys_ascend sort_key xs) e),
    ascend_from xs (right_of (list_all (is_before sort_key (sort_key x)) xs) (sort_keys_ascend sort_key xs) e),
  )

  pub ascend_to : (rows : List R) → SortKeysAscend sort_key rows → IsTrue (sort_keys_ascend sort_key rows)
  ascend_to [] ascend = refl
  ascend_to (x ∷ xs) ascend = both (list_all (is_before sort_key (sort_key x)) xs) (sort_keys_ascend sort_key xs) (above_to (sort_key x) xs ascend.0) (ascend_to xs ascend.1)

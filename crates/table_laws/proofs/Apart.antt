-- Lists of which no two elements are near, and rows of which no two have one sort key.
use Rattle.std.proofs.Common.{◌≡◌, ℕ, Bool, true, not, List, [], ◌∷◌, map, refl, sym, ◌∙◌}
use Rattle.std.specs.List.{list_any}
use Rattle.std.specs.declared.cmp.Ordering.TheVariants.{Less}
use Rattle.std.proofs.lemmas.Bool.{false≢true}
use Rattle.base_rows.specs.Sortable.{same_sort_key, SortKeysAbove, SortKeysAscend}
use Rattle.base_rows.specs.Changes.{are_apart}
use Rattle.base_rows.proofs.ListTests.{left_of, right_of, both, not_true, is_not, any_by, any_more, any-map}
use Rattle.base_rows.proofs.SortableLaws.{same_sort_key-cmp}

module _ {A : Type 0} (near : A → A → Bool) where
  -- where the images of near elements are near
  pub apart-unmap : {B : Type 0} (far : B → B → Bool) (f : B → A) → ((x y : B) → far x y ≡ true → near (f x) (f y) ≡ true) → (xs : List B) → are_apart near (map f xs) ≡ true → are_apart far xs ≡ true
  apart-unmap far f on [] e = refl
  apart-unmap far f on (x ∷ xs) e = both (not (list_any (far x) xs)) (are_apart far xs)
      (not_true (list_any (far x) xs) (λ found. is_not (list_any (near (f x)) (map f xs)) (left_of (not (list_any (near (f x)) (map f xs))) (are_apart near (map f xs)) e)
      (any-map (near (f x)) f xs ∙ any_more (far x) (λ y. near (f x) (f y)) xs (on x) found)))
      (apart-unmap far f on xs (right_of (not (list_any (near (f x)) (map f xs))) (are_apart near (map f xs)) e))

-- ---- Ascending sort keys

module _ {R : Type 0} (sort_key : R → List ℕ) where
  above_none : (p : List ℕ) (rows : List R) → SortKeysAbove sort_key p rows → list_any (same_sort_key p) (map sort_key rows) ≡ true → ⊥
  above_none p [] above e = false≢true e
  above_none p (x ∷ xs) above e = any_by (same_sort_key p) (sort_key x) (map sort_key xs) (λ here. false≢true (sym (same_sort_key-cmp p (sort_key x) Less above.0) ∙ here)) (above_none p xs above.1) e

  pub apart-ascend : (rows : List R) → SortKeysAscend sort_key rows → are_apart same_sort_key (map sort_key rows) ≡ true
  apart-ascend [] up = refl
  apart-ascend (x ∷ xs) up = both (not (list_any (same_sort_key (sort_key x)) (map sort_key xs))) (are_apart same_sort_key (map sort_key xs)) (not_true (list_any (same_sort_key (sort_key x)) (map sort_key xs)) (above_none (sort_key x) xs up.0)) (apart-ascend xs up.1)

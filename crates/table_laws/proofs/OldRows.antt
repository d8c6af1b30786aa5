-- The bindings of the rows at the sort keys that a change touches, one sort key after the other.
use Rattle.std.proofs.Common.{◌≡◌, ℕ, ◌+◌, ◌<◌, List, [], ◌∷◌, ◌++◌, length, map, take, get_or, Option, Some, None, refl, sym, ap, ◌∙◌, append_assoc}
use Rattle.std.specs.Prelude.{flat_map}
use Rattle.std.proofs.lemmas.Grind.{flat_map-append}
use Rattle.base_rows.specs.Sortable.{row_at}
use Rattle.base_rows.specs.Changes.{with_found, gone_row, rows_at}
use Rattle.table_model.proofs.RowSets.{take_one}

-- what was found, in front of others
pub found_before : {A : Type 0} (o : Option A) (xs ys : List A) → with_found o xs ++ ys ≡ with_found o (xs ++ ys)
found_before None xs ys = refl
found_before (Some x) xs ys = refl

module _ {R : Type 0} (sort_key : R → List ℕ) (rows : List R) where
  rows_at-push : (xs : List R) (x : R) → rows_at sort_key (map sort_key (xs ++ x ∷ [])) rows ≡ rows_at sort_key (map sort_key xs) rows ++ with_found (row_at sort_key (sort_key x) rows) []
  rows_at-push [] x = refl
  rows_at-push (y ∷ ys) x = ap (with_found (row_at sort_key (sort_key y) rows)) (rows_at-push ys x) ∙ sym (found_before (row_at sort_key (sort_key y) rows) (rows_at sort_key (map sort_key ys) rows) (with_found (row_at sort_key (sort_key x) rows) []))

  -- the row that goes, and then those at the sort keys of the rows that are put in
  pub rows_split : (gone : Option (List ℕ)) (sets : List R) → with_found (gone_row sort_key gone rows) [] ++ rows_at sort_key (map sort_key sets) rows ≡ rows_at sort_key (with_found gone (map sort_key sets)) rows
  rows_split None sets = refl
  rows_split (Some p) sets = found_before (row_at sort_key p rows) [] (rows_at sort_key (map sort_key sets) rows)

  pub rows_more : {B : Type 0} (f : R → List B) (front sets : List R) (i : ℕ) (x : R) → i < length sets → x ≡ get_or sets i x
      → flat_map f (front ++ rows_at sort_key (map sort_key (take (i + 1) sets)) rows) ≡ flat_map f (front ++ rows_at sort_key (map sort_key (take i sets)) rows) ++ flat_map f (with_found (row_at sort_key (sort_key x) rows) [])
  rows_more f front sets i x within is =
      let so_far : List R = rows_at sort_key (map sort_key (take i sets)) rows in
      let one : List R = with_found (row_at sort_key (sort_key x) rows) [] in
      ap (λ xs. flat_map f (front ++ rows_at sort_key (map sort_key xs) rows)) (take_one sets i x within is)
      ∙ ap (λ xs. flat_map f (front ++ xs)) (rows_at-push (take i sets) x)
      ∙ ap (flat_map f) (sym (append_assoc front so_far one))
      ∙ flat_map-append f (front ++ so_far) one

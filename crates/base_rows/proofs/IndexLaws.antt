-- Where the index of a sort key stays, how many rows there are, and rows in parts.
use Rattle.std.proofs.Common.{◌≡◌, ℕ, zero, suc, ◌+◌, ◌<◌, List, slice_get, [], ◌∷◌, ◌++◌, length, Option, Result, Ok, Err, refl, sym, ap, subst, ◌∙◌, arith}
use Rattle.std.specs.Prelude.{if◌then◌else◌}
use Rattle.std.specs.Option.{is_some}
use Rattle.std.specs.declared.cmp.Ordering.{Ordering}
use Rattle.std.specs.declared.cmp.Ordering.TheVariants.{Less, Equal, Greater}
use Rattle.std.proofs.lemmas.List.Edits.{length-insert}
use Rattle.std.proofs.lemmas.List.{length-set}
use Rattle.base_rows.specs.Sortable.{sort_key_cmp, row_at, index_in, one_on, set_row, without_row, SortKeysAbove, SortKeysBelow, ComeBefore, SortKeysAscend}
use Rattle.base_rows.proofs.SortableLaws.{sort_key_cmp_exact, sort_key_cmp_trans, sort_key_cmp_turned, above_trans, IsIndexOf, row_of, row_at-index_in, index_in_within, set_row_found, set_row_missed}

module _ {R : Type 0} (sort_key : R → List ℕ) where
  abbrev step : Result ℕ ℕ → Ordering → Result ℕ ℕ
  step rest o = elim o [ Less ↦ Err 0 | Equal ↦ Ok 0 | Greater ↦ one_on rest ]

  abbrev set_first : R → R → List R → Ordering → List R
  set_first row x xs o = elim o [ Less ↦ row ∷ (x ∷ xs) | Equal ↦ row ∷ xs | Greater ↦ x ∷ set_row sort_key row xs ]

  abbrev without_first : List ℕ → R → List R → Ordering → List R
  without_first q x xs o = elim o [ Less ↦ x ∷ xs | Equal ↦ xs | Greater ↦ x ∷ without_row sort_key q xs ]

  -- ---- A write behind a sort key leaves the index of the sort key as it was

  index_before : (p : List ℕ) (row x : R) (xs : List R) → sort_key_cmp p (sort_key row) ≡ Less → index_in sort_key p (set_row sort_key row xs) ≡ index_in sort_key p xs → (o : Ordering) → sort_key_cmp (sort_key row) (sort_key x) ≡ o → index_in sort_key p (set_first row x xs o) ≡ index_in sort_key p (x ∷ xs)
  index_before p row x xs less rest Less e = ap (step (index_in sort_key p (x ∷ xs))) less ∙ sym (ap (step (index_in sort_key p xs)) (sort_key_cmp_trans p (sort_key row) (sort_key x) less e))
  index_before p row x xs less rest Equal e = ap (λ (q : List ℕ). step (index_in sort_key p xs) (sort_key_cmp p q)) (sort_key_cmp_exact (sort_key row) (sort_key x) e)
  index_before p row x xs less rest Greater e = ap (λ (r : Result ℕ ℕ). step r (sort_key_cmp p (sort_key x))) rest

  pub index_in-set_row_behind : (p : List ℕ) (row : R) (rows : List R) → sort_key_cmp p (sort_key row) ≡ Less → index_in sort_key p (set_row sort_key row rows) ≡ index_in sort_key p rows
  index_in-set_row_behind p row [] less = ap (step (Err 0)) less
  index_in-set_row_behind p row (x ∷ xs) less = index_before p row x xs less (index_in-set_row_behind p row xs less) (sort_key_cmp (sort_key row) (sort_key x)) refl

  index_above : (p : List ℕ) (rows : List R) → SortKeysAbove sort_key p rows → index_in sort_key p rows ≡ Err 0
  index_above p [] above = refl
  index_above p (x ∷ xs) above = ap (step (index_in sort_key p xs)) above.0

  index_without : (p q : List ℕ) (x : R) (xs : List R) → SortKeysAscend sort_key (x ∷ xs) → sort_key_cmp p q ≡ Less → index_in sort_key p (without_row sort_key q xs) ≡ index_in sort_key p xs → (o : Ordering) → sort_key_cmp q (sort_key x) ≡ o → index_in sort_key p (without_first q x xs o) ≡ index_in sort_key p (x ∷ xs)
  index_without p q x xs up less rest Less e = refl
  index_without p q x xs up less rest Equal e =
      let below : sort_key_cmp p (sort_key x) ≡ Less = subst (λ (r : List ℕ). sort_key_cmp p r ≡ Less) (sort_key_cmp_exact q (sort_key x) e) less in
      index_above p xs (above_trans sort_key p (sort_key x) xs below up.0) ∙ sym (index_above p (x ∷ xs) (below, above_trans sort_key p (sort_key x) xs below up.0))
  index_without p q x xs up less rest Greater e = ap (λ (r : Result ℕ ℕ). step r (sort_key_cmp p (sort_key x))) rest

  pub index_in-without_row_behind : (p q : List ℕ) (rows : List R) → SortKeysAscend sort_key rows → sort_key_cmp p q ≡ Less → index_in sort_key p (without_row sort_key q rows) ≡ index_in sort_key p rows
  index_in-without_row_behind p q [] up less = refl
  index_in-without_row_behind p q (x ∷ xs) up less = index_without p q x xs up less (index_in-without_row_behind p q xs up.1 less) (sort_key_cmp q (sort_key x)) refl

  -- ---- How many rows there are

  -- one where the sort key has none
  abbrev one_if_none : Option R → ℕ
  one_if_none o = if is_some o then 0 else 1

  some_there : (rows : List R) (i : ℕ) → i < length rows → one_if_none (slice_get rows i) ≡ 0
  some_there [] i within = absurd (omega arith)
  some_there (x ∷ xs) zero within = refl
  some_there (x ∷ xs) (suc i) within = some_there xs i (omega arith)

  put_length : (row : R) (rows : List R) (r : Result ℕ ℕ) → SortKeysAscend sort_key rows → IsIndexOf sort_key rows r → index_in sort_key (sort_key row) rows ≡ r → length (set_row sort_key row rows) ≡ length rows + one_if_none (row_of sort_key rows r)
  put_length row rows (Ok i) up within e = ap length (set_row_found sort_key row rows i e) ∙ length-set rows i row ∙ omega (arith, some_there rows i within)
  put_length row rows (Err i) up within e = ap length (set_row_missed sort_key row rows i e) ∙ length-insert rows i row within

  -- they are one more where the sort key of the row that is put in had none, and else as many
  pub set_row_length : (row : R) (rows : List R) → SortKeysAscend sort_key rows → length (set_row sort_key row rows) ≡ length rows + one_if_none (row_at sort_key (sort_key row) rows)
  set_row_length row rows up = put_length row rows (index_in sort_key (sort_key row) rows) up (index_in_within sort_key (sort_key row) rows) refl ∙ ap (λ o. length rows + one_if_none o) (sym (row_at-index_in sort_key (sort_key row) rows up))

  -- ---- Rows behind others

  -- a row whose sort key is behind the first rows is put in among the others
  pub set_row-behind : (row : R) (xs ys : List R) → SortKeysBelow sort_key (sort_key row) xs → set_row sort_key row (xs ++ ys) ≡ xs ++ set_row sort_key row ys
  set_row-behind row [] ys below = refl
  set_row-behind row (x ∷ xs) ys below = ap (set_first row x (xs ++ ys)) (sort_key_cmp_turned (sort_key x) (sort_key row) Less below.0) ∙ ap (λ zs. x ∷ zs) (set_row-behind row xs ys below.1)

  pub put_before : (row : R) (ys : List R) → SortKeysAbove sort_key (sort_key row) ys → set_row sort_key row ys ≡ row ∷ ys
  put_before row [] above = refl
  put_before row (y ∷ ys) above = ap (set_first row y ys) above.0

  before_first : (row x : R) (xs ys : List R) → set_row sort_key row (xs ++ ys) ≡ set_row sort_key row xs ++ ys → (o : Ordering) → set_first row x (xs ++ ys) o ≡ set_first row x xs o ++ ys
  before_first row x xs ys rest Less = refl
  before_first row x xs ys rest Equal = refl
  before_first row x xs ys rest Greater = ap (λ zs. x ∷ zs) rest

  -- a row whose sort key is before the last rows is put in among the others
  pub set_row-before : (row : R) (xs ys : List R) → SortKeysAbove sort_key (sort_key row) ys → set_row sort_key row (xs ++ ys) ≡ set_row sort_key row xs ++ ys
  set_row-before row [] ys above = put_before row ys above
  set_row-before row (x ∷ xs) ys above = before_first row x xs ys (set_row-before row xs ys above) (sort_key_cmp (sort_key row) (sort_key x))

  pub without_row-behind : (q : List ℕ) (xs ys : List R) → SortKeysBelow sort_key q xs → without_row sort_key q (xs ++ ys) ≡ xs ++ without_row sort_key q ys
  without_row-behind q [] ys below = refl
  without_row-behind q (x ∷ xs) ys below = ap (without_first q x (xs ++ ys)) (sort_key_cmp_turned (sort_key x) q Less below.0) ∙ ap (λ zs. x ∷ zs) (without_row-behind q xs ys below.1)

  none_before : (q : List ℕ) (ys : List R) → SortKeysAbove sort_key q ys → without_row sort_key q ys ≡ ys
  none_before q [] above = refl
  none_before q (y ∷ ys) above = ap (without_first q y ys) above.0

  without_before_first : (q : List ℕ) (x : R) (xs ys : List R) → without_row sort_key q (xs ++ ys) ≡ without_row sort_key q xs ++ ys → (o : Ordering) → without_first q x (xs ++ ys) o ≡ without_first q x xs o ++ ys
  without_before_first q x xs ys rest Less = refl
  without_before_first q x xs ys rest Equal = refl
  without_before_first q x xs ys rest Greater = ap (λ zs. x ∷ zs) rest

  pub without_row-before : (q : List ℕ) (xs ys : List R) → SortKeysAbove sort_key q ys → without_row sort_key q (xs ++ ys) ≡ without_row sort_key q xs ++ ys
  without_row-before q [] ys above = none_before q ys above
  without_row-before q (x ∷ xs) ys above = without_before_first q x xs ys (without_row-before q xs ys above) (sort_key_cmp q (sort_key x))

  pub above-append : (p : List ℕ) (xs ys : List R) → SortKeysAbove sort_key p xs → SortKeysAbove sort_key p ys → SortKeysAbove sort_key p (xs ++ ys)
  above-append p [] ys left right = right
  above-append p (x ∷ xs) ys left right = (left.0, above-append p xs ys left.1 right)

  -- rows behind rows are in order where both are and the first come before the others
  pub ascend-append : (xs ys : List R) → SortKeysAscend sort_key xs → SortKeysAscend sort_key ys → ComeBefore sort_key xs ys → SortKeysAscend sort_key (xs ++ ys)
  ascend-append [] ys left right before = right
  ascend-append (x ∷ xs) ys left right before = (above-append (sort_key x) xs ys left.0 before.0, ascend-append xs ys left.1 right before.1)

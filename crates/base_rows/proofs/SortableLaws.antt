-- The laws of rows in the order of their sort keys, for any rows and any sort key of a row.
use Rattle.std.proofs.Common.{◌≡◌, ℕ, zero, suc, ◌+◌, ◌≤◌, ◌<◌, Bool, true, false, cond, ◌&&◌, List, [], ◌∷◌, ◌++◌, length, slice_get, get_or, set, Option, Some, None, Result, Ok, Err, refl, sym, ap, subst, ◌∙◌, arith}
use Rattle.std.proofs.Math.Bool.{and-true}
use Rattle.std.proofs.lemmas.Bool.{false≢true}
use Rattle.std.proofs.lemmas.Option.{same_Some, none-some, slice_get_read}
use Rattle.std.specs.List.{insert, remove, AllAdjacentBelow}
use Rattle.std.specs.Ordering.{is_eq, is_lt, ordering_reverse}
use Rattle.std.specs.Cmp.{IsTotalOrder, first_so, second_so}
use Rattle.std.specs.declared.cmp.Ordering.{Ordering}
use Rattle.std.specs.declared.cmp.Ordering.TheVariants.{Less, Equal, Greater}
use Rattle.std.proofs.lemmas.Cmp.{nat_list_cmp_total, tied_itself}
use Rattle.std.proofs.lemmas.Map.Lookups.{exact_bytes}
use Rattle.std.proofs.lemmas.Map.Text.{is_eq-slice_cmp}
use Rattle.base_rows.specs.Sortable.{sort_key_cmp, same_sort_key, SortKeysAbove, SortKeysAscend, row_at, index_in, one_on, set_row, set_rows, without_row, comes_last}

-- ---- The order of sort keys

pub sort_key_cmp_total : IsTotalOrder sort_key_cmp
sort_key_cmp_total = nat_list_cmp_total

pub sort_key_cmp_exact : (p q : List ℕ) → sort_key_cmp p q ≡ Equal → p ≡ q
sort_key_cmp_exact p q e = exact_bytes p q e

pub sort_key_cmp_itself : (p : List ℕ) → sort_key_cmp p p ≡ Equal
sort_key_cmp_itself p = tied_itself sort_key_cmp_total p

pub sort_key_cmp_trans : (p q r : List ℕ) → sort_key_cmp p q ≡ Less → sort_key_cmp q r ≡ Less → sort_key_cmp p r ≡ Less
sort_key_cmp_trans p q r = sort_key_cmp_total.trans p q r

pub sort_key_cmp_turned : (p q : List ℕ) (o : Ordering) → sort_key_cmp p q ≡ o → sort_key_cmp q p ≡ ordering_reverse o
sort_key_cmp_turned p q o e = sort_key_cmp_total.antisymm q p ∙ ap ordering_reverse e

pub same_sort_key-cmp : (p q : List ℕ) (o : Ordering) → sort_key_cmp p q ≡ o → same_sort_key p q ≡ is_eq o
same_sort_key-cmp p q o e = sym (is_eq-slice_cmp p q) ∙ ap is_eq e

pub same_sort_key_itself : (p : List ℕ) → same_sort_key p p ≡ true
same_sort_key_itself p = same_sort_key-cmp p p Equal (sort_key_cmp_itself p)

same_from_order : (p q : List ℕ) (o : Ordering) → sort_key_cmp p q ≡ o → same_sort_key p q ≡ true → p ≡ q
same_from_order p q Less e same = absurd (false≢true (sym (same_sort_key-cmp p q Less e) ∙ same))
same_from_order p q Equal e same = sort_key_cmp_exact p q e
same_from_order p q Greater e same = absurd (false≢true (sym (same_sort_key-cmp p q Greater e) ∙ same))

pub same_sort_key_exact : (p q : List ℕ) → same_sort_key p q ≡ true → p ≡ q
same_sort_key_exact p q same = same_from_order p q (sort_key_cmp p q) refl same

-- ---- Choices by a test

swap_cond : {A : Type 0} (b c : Bool) (u v w : A) → (b ≡ true → c ≡ true → ⊥) → cond c v (cond b u w) ≡ cond b u (cond c v w)
swap_cond true true u v w apart = absurd (apart refl refl)
swap_cond true false u v w apart = refl
swap_cond false true u v w apart = refl
swap_cond false false u v w apart = refl

same_cond : {A : Type 0} (b c : Bool) (u v w : A) → c ≡ b → cond b u w ≡ cond b u (cond c v w)
same_cond true c u v w e = refl
same_cond false c u v w e = sym (ap (λ t. cond t v w) e)

none_cond : {A : Type 0} (b : Bool) (w : A) (u : A) → (b ≡ true → w ≡ u) → w ≡ cond b u w
none_cond true w u e = e refl
none_cond false w u e = refl

-- ---- Tests

pub less_from_is_lt : (o : Ordering) → is_lt o ≡ true → o ≡ Less
less_from_is_lt Less e = refl
less_from_is_lt Equal e = absurd (false≢true e)
less_from_is_lt Greater e = absurd (false≢true e)

and_implied : (b c : Bool) → (c ≡ true → b ≡ true) → (b && c) ≡ c
and_implied true c implied = refl
and_implied false true implied = absurd (false≢true (implied refl))
and_implied false false implied = refl

-- ---- Indices

pub err≢ok : (i j : ℕ) → (let r : Result ℕ ℕ = Err i in r ≡ Ok j) → ⊥
err≢ok i j e = cc

pub zero≢suc : (i : ℕ) → 0 ≡ suc i → ⊥
zero≢suc i e = omega arith

pub same_Ok : (i j : ℕ) → (let r : Result ℕ ℕ = Ok i in r ≡ Ok j) → i ≡ j
same_Ok i j e = cc

pub one_on≢zero : (r : Result ℕ ℕ) → one_on r ≡ Ok 0 → ⊥
one_on≢zero (Ok i) e = zero≢suc i (sym (same_Ok (suc i) 0 e))
one_on≢zero (Err i) e = cc

pub one_on_same : (r : Result ℕ ℕ) (i : ℕ) → one_on r ≡ Ok (suc i) → r ≡ Ok i
one_on_same (Ok j) i e = let same : suc j ≡ suc i = same_Ok (suc j) (suc i) e in ap Ok (omega arith)
one_on_same (Err j) i e = cc

module _ {R : Type 0} (sort_key : R → List ℕ) where
  -- ---- Ascending rows

  pub above_trans : (p q : List ℕ) (rows : List R) → sort_key_cmp p q ≡ Less → SortKeysAbove sort_key q rows → SortKeysAbove sort_key p rows
  above_trans p q [] e above = tt
  above_trans p q (x ∷ xs) e above = (sort_key_cmp_trans p q (sort_key x) e above.0, above_trans p q xs e above.1)

  -- what `set_row` and `without_row` make of a first row, by its order
  abbrev set_first : R → R → List R → Ordering → List R
  set_first row x xs o = elim o [ Less ↦ row ∷ (x ∷ xs) | Equal ↦ row ∷ xs | Greater ↦ x ∷ set_row sort_key row xs ]

  abbrev without_first : List ℕ → R → List R → Ordering → List R
  without_first p x xs o = elim o [ Less ↦ x ∷ xs | Equal ↦ xs | Greater ↦ x ∷ without_row sort_key p xs ]

  above_set_first : (p : List ℕ) (row x : R) (xs : List R) → sort_key_cmp p (sort_key row) ≡ Less → SortKeysAbove sort_key p (x ∷ xs) → SortKeysAbove sort_key p (set_row sort_key row xs) → (o : Ordering) → SortKeysAbove sort_key p (set_first row x xs o)
  above_set_first p row x xs e above rest Less = (e, above)
  above_set_first p row x xs e above rest Equal = (e, above.1)
  above_set_first p row x xs e above rest Greater = (above.0, rest)

  pub above-set_row : (p : List ℕ) (row : R) (rows : List R) → sort_key_cmp p (sort_key row) ≡ Less → SortKeysAbove sort_key p rows → SortKeysAbove sort_key p (set_row sort_key row rows)
  above-set_row p row [] e above = (e, tt)
  above-set_row p row (x ∷ xs) e above = above_set_first p row x xs e above (above-set_row p row xs e above.1) (sort_key_cmp (sort_key row) (sort_key x))

  ascend_set_first : (row x : R) (xs : List R) → SortKeysAscend sort_key (x ∷ xs) → SortKeysAscend sort_key (set_row sort_key row xs) → (o : Ordering) → sort_key_cmp (sort_key row) (sort_key x) ≡ o → SortKeysAscend sort_key (set_first row x xs o)
  ascend_set_first row x xs ascend rest Less e = ((e, above_trans (sort_key row) (sort_key x) xs e ascend.0), ascend)
  ascend_set_first row x xs ascend rest Equal e = (subst (λ p. SortKeysAbove sort_key p xs) (sym (sort_key_cmp_exact (sort_key row) (sort_key x) e)) ascend.0, ascend.1)
  ascend_set_first row x xs ascend rest Greater e = (above-set_row (sort_key x) row xs (sort_key_cmp_turned (sort_key row) (sort_key x) Greater e) ascend.0, rest)

  -- a row that is put in keeps the order
  pub ascend-set_row : (row : R) (rows : List R) → SortKeysAscend sort_key rows → SortKeysAscend sort_key (set_row sort_key row rows)
  ascend-set_row row [] ascend = (tt, tt)
  ascend-set_row row (x ∷ xs) ascend = ascend_set_first row x xs ascend (ascend-set_row row xs ascend.1) (sort_key_cmp (sort_key row) (sort_key x)) refl

  pub ascend-set_rows : (new rows : List R) → SortKeysAscend sort_key rows → SortKeysAscend sort_key (set_rows sort_key new rows)
  ascend-set_rows [] rows ascend = ascend
  ascend-set_rows (x ∷ xs) rows ascend = ascend-set_rows xs (set_row sort_key x rows) (ascend-set_row x rows ascend)

  above_without_first : (p q : List ℕ) (x : R) (xs : List R) → SortKeysAbove sort_key p (x ∷ xs) → SortKeysAbove sort_key p (without_row sort_key q xs) → (o : Ordering) → SortKeysAbove sort_key p (without_first q x xs o)
  above_without_first p q x xs above rest Less = above
  above_without_first p q x xs above rest Equal = above.1
  above_without_first p q x xs above rest Greater = (above.0, rest)

  pub above-without_row : (p q : List ℕ) (rows : List R) → SortKeysAbove sort_key p rows → SortKeysAbove sort_key p (without_row sort_key q rows)
  above-without_row p q [] above = tt
  above-without_row p q (x ∷ xs) above = above_without_first p q x xs above (above-without_row p q xs above.1) (sort_key_cmp q (sort_key x))

  ascend_without_first : (q : List ℕ) (x : R) (xs : List R) → SortKeysAscend sort_key (x ∷ xs) → SortKeysAscend sort_key (without_row sort_key q xs) → (o : Ordering) → SortKeysAscend sort_key (without_first q x xs o)
  ascend_without_first q x xs ascend rest Less = ascend
  ascend_without_first q x xs ascend rest Equal = ascend.1
  ascend_without_first q x xs ascend rest Greater = (above-without_row (sort_key x) q xs ascend.0, rest)

  -- a row that is taken away keeps the order
  pub ascend-without_row : (q : List ℕ) (rows : List R) → SortKeysAscend sort_key rows → SortKeysAscend sort_key (without_row sort_key q rows)
  ascend-without_row q [] ascend = tt
  ascend-without_row q (x ∷ xs) ascend = ascend_without_first q x xs ascend (ascend-without_row q xs ascend.1) (sort_key_cmp q (sort_key x))

  -- ---- The row of a sort key

  -- a sort key before all rows has none
  pub row_at_above : (p : List ℕ) (rows : List R) → SortKeysAbove sort_key p rows → row_at sort_key p rows ≡ None
  row_at_above p [] above = refl
  row_at_above p (x ∷ xs) above = ap (λ b. cond b (Some x) (row_at sort_key p xs)) (same_sort_key-cmp (sort_key x) p Greater (sort_key_cmp_turned p (sort_key x) Less above.0)) ∙ row_at_above p xs above.1

  row_at_set_first : (row x : R) (xs : List R) (p : List ℕ) → row_at sort_key p (set_row sort_key row xs) ≡ cond (same_sort_key (sort_key row) p) (Some row) (row_at sort_key p xs) → (o : Ordering) → sort_key_cmp (sort_key row) (sort_key x) ≡ o → row_at sort_key p (set_first row x xs o) ≡ cond (same_sort_key (sort_key row) p) (Some row) (row_at sort_key p (x ∷ xs))
  row_at_set_first row x xs p rest Less e = refl
  row_at_set_first row x xs p rest Equal e = same_cond (same_sort_key (sort_key row) p) (same_sort_key (sort_key x) p) (Some row) (Some x) (row_at sort_key p xs) (ap (λ q. same_sort_key q p) (sym (sort_key_cmp_exact (sort_key row) (sort_key x) e)))
  row_at_set_first row x xs p rest Greater e =
      ap (cond (same_sort_key (sort_key x) p) (Some x)) rest
      ∙ swap_cond (same_sort_key (sort_key row) p) (same_sort_key (sort_key x) p) (Some row) (Some x) (row_at sort_key p xs) (λ r t.
      let same : sort_key row ≡ sort_key x = same_sort_key_exact (sort_key row) p r ∙ sym (same_sort_key_exact (sort_key x) p t) in
      false≢true (sym (same_sort_key-cmp (sort_key row) (sort_key x) Greater e) ∙ ap (same_sort_key (sort_key row)) (sym same) ∙ same_sort_key_itself (sort_key row)))

  -- a row that is put in is found at its sort key, and at each other sort key what was there
  pub row_at-set_row : (row : R) (rows : List R) (p : List ℕ) → row_at sort_key p (set_row sort_key row rows) ≡ cond (same_sort_key (sort_key row) p) (Some row) (row_at sort_key p rows)
  row_at-set_row row [] p = refl
  row_at-set_row row (x ∷ xs) p = row_at_set_first row x xs p (row_at-set_row row xs p) (sort_key_cmp (sort_key row) (sort_key x)) refl

  pub row_at-set_row_same : (row : R) (rows : List R) → row_at sort_key (sort_key row) (set_row sort_key row rows) ≡ Some row
  row_at-set_row_same row rows = row_at-set_row row rows (sort_key row) ∙ ap (λ b. cond b (Some row) (row_at sort_key (sort_key row) rows)) (same_sort_key_itself (sort_key row))

  pub row_at-set_row_other : (row : R) (rows : List R) (p : List ℕ) → same_sort_key (sort_key row) p ≡ false → row_at sort_key p (set_row sort_key row rows) ≡ row_at sort_key p rows
  row_at-set_row_other row rows p other = row_at-set_row row rows p ∙ ap (λ b. cond b (Some row) (row_at sort_key p rows)) other

  row_at_without_first : (q : List ℕ) (x : R) (xs : List R) (p : List ℕ) → SortKeysAscend sort_key (x ∷ xs) → row_at sort_key p (without_row sort_key q xs) ≡ cond (same_sort_key q p) None (row_at sort_key p xs) → (o : Ordering) → sort_key_cmp q (sort_key x) ≡ o → row_at sort_key p (without_first q x xs o) ≡ cond (same_sort_key q p) None (row_at sort_key p (x ∷ xs))
  row_at_without_first q x xs p ascend rest Less e = none_cond (same_sort_key q p) (row_at sort_key p (x ∷ xs)) None (λ same.
      subst (λ r. row_at sort_key r (x ∷ xs) ≡ None) (same_sort_key_exact q p same) (row_at_above q (x ∷ xs) (e, above_trans q (sort_key x) xs e ascend.0)))
  row_at_without_first q x xs p ascend rest Equal e =
      none_cond (same_sort_key q p) (row_at sort_key p xs) None (λ same. subst (λ r. row_at sort_key r xs ≡ None) (sym (sort_key_cmp_exact q (sort_key x) e) ∙ same_sort_key_exact q p same) (row_at_above (sort_key x) xs ascend.0))
      ∙ same_cond (same_sort_key q p) (same_sort_key (sort_key x) p) None (Some x) (row_at sort_key p xs) (ap (λ r. same_sort_key r p) (sym (sort_key_cmp_exact q (sort_key x) e)))
  row_at_without_first q x xs p ascend rest Greater e =
      ap (cond (same_sort_key (sort_key x) p) (Some x)) rest
      ∙ swap_cond (same_sort_key q p) (same_sort_key (sort_key x) p) None (Some x) (row_at sort_key p xs) (λ r t.
      let same : q ≡ sort_key x = same_sort_key_exact q p r ∙ sym (same_sort_key_exact (sort_key x) p t) in
      false≢true (sym (same_sort_key-cmp q (sort_key x) Greater e) ∙ ap (same_sort_key q) (sym same) ∙ same_sort_key_itself q))

  -- after a row is taken away its sort key has none, and each other sort key what was there
  pub row_at-without_row : (q : List ℕ) (rows : List R) (p : List ℕ) → SortKeysAscend sort_key rows → row_at sort_key p (without_row sort_key q rows) ≡ cond (same_sort_key q p) None (row_at sort_key p rows)
  row_at-without_row q [] p ascend = none_cond (same_sort_key q p) None None (λ _. refl)
  row_at-without_row q (x ∷ xs) p ascend = row_at_without_first q x xs p ascend (row_at-without_row q xs p ascend.1) (sort_key_cmp q (sort_key x)) refl

  -- ---- The index of a sort key

  -- the row at an index, where there is one
  abbrev pub row_of : List R → Result ℕ ℕ → Option R
  row_of rows (Ok i) = slice_get rows i
  row_of rows (Err i) = None

  -- the rows with this one at the index that was found
  abbrev pub set_at : List R → R → Result ℕ ℕ → List R
  set_at rows row (Ok i) = set rows i row
  set_at rows row (Err i) = insert rows i row

  -- the rows without the one at the index that was found
  abbrev pub without_at : List R → Result ℕ ℕ → List R
  without_at rows (Ok i) = remove rows i
  without_at rows (Err i) = rows

  -- the index is within the rows, or no further than their end
  abbrev pub IsIndexOf : List R → Result ℕ ℕ → Type 0
  IsIndexOf rows (Ok i) = i < length rows
  IsIndexOf rows (Err i) = i ≤ length rows

  abbrev index_first : List ℕ → List R → Ordering → Result ℕ ℕ
  index_first p xs o = elim o [ Less ↦ Err 0 | Equal ↦ Ok 0 | Greater ↦ one_on (index_in sort_key p xs) ]

  row_of-one_on : (x : R) (xs : List R) (r : Result ℕ ℕ) → row_of (x ∷ xs) (one_on r) ≡ row_of xs r
  row_of-one_on x xs (Ok i) = refl
  row_of-one_on x xs (Err i) = refl

  set_at-one_on : (x row : R) (xs : List R) (r : Result ℕ ℕ) → set_at (x ∷ xs) row (one_on r) ≡ x ∷ set_at xs row r
  set_at-one_on x row xs (Ok i) = refl
  set_at-one_on x row xs (Err i) = refl

  without_at-one_on : (x : R) (xs : List R) (r : Result ℕ ℕ) → without_at (x ∷ xs) (one_on r) ≡ x ∷ without_at xs r
  without_at-one_on x xs (Ok i) = refl
  without_at-one_on x xs (Err i) = refl

  IsIndexOf-one_on : (x : R) (xs : List R) (r : Result ℕ ℕ) → IsIndexOf xs r → IsIndexOf (x ∷ xs) (one_on r)
  IsIndexOf-one_on x xs (Ok i) h = omega arith
  IsIndexOf-one_on x xs (Err i) h = omega arith

  row_of_first : (p : List ℕ) (x : R) (xs : List R) → SortKeysAscend sort_key (x ∷ xs) → row_at sort_key p xs ≡ row_of xs (index_in sort_key p xs) → (o : Ordering) → sort_key_cmp p (sort_key x) ≡ o → row_at sort_key p (x ∷ xs) ≡ row_of (x ∷ xs) (index_first p xs o)
  row_of_first p x xs ascend rest Less e = row_at_above p (x ∷ xs) (e, above_trans p (sort_key x) xs e ascend.0)
  row_of_first p x xs ascend rest Equal e = ap (λ b. cond b (Some x) (row_at sort_key p xs)) (same_sort_key-cmp (sort_key x) p Equal (sort_key_cmp_turned p (sort_key x) Equal e))
  row_of_first p x xs ascend rest Greater e = ap (λ b. cond b (Some x) (row_at sort_key p xs)) (same_sort_key-cmp (sort_key x) p Less (sort_key_cmp_turned p (sort_key x) Greater e)) ∙ rest ∙ sym (row_of-one_on x xs (index_in sort_key p xs))

  pub row_at-index_in : (p : List ℕ) (rows : List R) → SortKeysAscend sort_key rows → row_at sort_key p rows ≡ row_of rows (index_in sort_key p rows)
  row_at-index_in p [] ascend = refl
  row_at-index_in p (x ∷ xs) ascend = row_of_first p x xs ascend (row_at-index_in p xs ascend.1) (sort_key_cmp p (sort_key x)) refl

  set_at_first : (row x : R) (xs : List R) → set_row sort_key row xs ≡ set_at xs row (index_in sort_key (sort_key row) xs) → (o : Ordering) → set_first row x xs o ≡ set_at (x ∷ xs) row (index_first (sort_key row) xs o)
  set_at_first row x xs rest Less = refl
  set_at_first row x xs rest Equal = refl
  set_at_first row x xs rest Greater = ap (λ ys. x ∷ ys) rest ∙ sym (set_at-one_on x row xs (index_in sort_key (sort_key row) xs))

  pub set_row-index_in : (row : R) (rows : List R) → set_row sort_key row rows ≡ set_at rows row (index_in sort_key (sort_key row) rows)
  set_row-index_in row [] = refl
  set_row-index_in row (x ∷ xs) = set_at_first row x xs (set_row-index_in row xs) (sort_key_cmp (sort_key row) (sort_key x))

  without_at_first : (p : List ℕ) (x : R) (xs : List R) → without_row sort_key p xs ≡ without_at xs (index_in sort_key p xs) → (o : Ordering) → without_first p x xs o ≡ without_at (x ∷ xs) (index_first p xs o)
  without_at_first p x xs rest Less = refl
  without_at_first p x xs rest Equal = refl
  without_at_first p x xs rest Greater = ap (λ ys. x ∷ ys) rest ∙ sym (without_at-one_on x xs (index_in sort_key p xs))

  pub without_row-index_in : (p : List ℕ) (rows : List R) → without_row sort_key p rows ≡ without_at rows (index_in sort_key p rows)
  without_row-index_in p [] = refl
  without_row-index_in p (x ∷ xs) = without_at_first p x xs (without_row-index_in p xs) (sort_key_cmp p (sort_key x))

  is_index_first : (p : List ℕ) (x : R) (xs : List R) → IsIndexOf xs (index_in sort_key p xs) → (o : Ordering) → IsIndexOf (x ∷ xs) (index_first p xs o)
  is_index_first p x xs rest Less = omega arith
  is_index_first p x xs rest Equal = omega arith
  is_index_first p x xs rest Greater = IsIndexOf-one_on x xs (index_in sort_key p xs) rest

  pub index_in_within : (p : List ℕ) (rows : List R) → IsIndexOf rows (index_in sort_key p rows)
  index_in_within p [] = omega arith
  index_in_within p (x ∷ xs) = is_index_first p x xs (index_in_within p xs) (sort_key_cmp p (sort_key x))

  -- what an index that was found, or one at which a row belongs, says
  pub found_within : (p : List ℕ) (rows : List R) (i : ℕ) → index_in sort_key p rows ≡ Ok i → i < length rows
  found_within p rows i e = subst (IsIndexOf rows) e (index_in_within p rows)

  pub missed_within : (p : List ℕ) (rows : List R) (i : ℕ) → index_in sort_key p rows ≡ Err i → i ≤ length rows
  missed_within p rows i e = subst (IsIndexOf rows) e (index_in_within p rows)

  pub row_at_found : (p : List ℕ) (rows : List R) (i : ℕ) → SortKeysAscend sort_key rows → index_in sort_key p rows ≡ Ok i → row_at sort_key p rows ≡ slice_get rows i
  row_at_found p rows i ascend e = row_at-index_in p rows ascend ∙ ap (row_of rows) e

  pub row_at_missed : (p : List ℕ) (rows : List R) (i : ℕ) → SortKeysAscend sort_key rows → index_in sort_key p rows ≡ Err i → row_at sort_key p rows ≡ None
  row_at_missed p rows i ascend e = row_at-index_in p rows ascend ∙ ap (row_of rows) e

  pub set_row_found : (row : R) (rows : List R) (i : ℕ) → index_in sort_key (sort_key row) rows ≡ Ok i → set_row sort_key row rows ≡ set rows i row
  set_row_found row rows i e = set_row-index_in row rows ∙ ap (set_at rows row) e

  pub set_row_missed : (row : R) (rows : List R) (i : ℕ) → index_in sort_key (sort_key row) rows ≡ Err i → set_row sort_key row rows ≡ insert rows i row
  set_row_missed row rows i e = set_row-index_in row rows ∙ ap (set_at rows row) e

  pub without_row_found : (p : List ℕ) (rows : List R) (i : ℕ) → index_in sort_key p rows ≡ Ok i → without_row sort_key p rows ≡ remove rows i
  without_row_found p rows i e = without_row-index_in p rows ∙ ap (without_at rows) e

  pub without_row_missed : (p : List ℕ) (rows : List R) (i : ℕ) → index_in sort_key p rows ≡ Err i → without_row sort_key p rows ≡ rows
  without_row_missed p rows i e = without_row-index_in p rows ∙ ap (without_at rows) e

  -- ---- The rows themselves

  pub above_row : (p : List ℕ) (rows : List R) (i : ℕ) (x : R) → SortKeysAbove sort_key p rows → slice_get rows i ≡ Some x → sort_key_cmp p (sort_key x) ≡ Less
  above_row p [] i x above e = absurd (none-some x e)
  above_row p (y ∷ ys) zero x above e = subst (λ z. sort_key_cmp p (sort_key z) ≡ Less) (same_Some y x e) above.0
  above_row p (y ∷ ys) (suc i) x above e = above_row p ys i x above.1 e

  -- each row is found at its index by its sort key
  pub index_in_row : (rows : List R) (i : ℕ) (x : R) → SortKeysAscend sort_key rows → slice_get rows i ≡ Some x → index_in sort_key (sort_key x) rows ≡ Ok i
  index_in_row [] i x ascend e = absurd (none-some x e)
  index_in_row (y ∷ ys) zero x ascend e = ap (index_first (sort_key x) ys) (ap (λ z. sort_key_cmp (sort_key x) (sort_key z)) (same_Some y x e) ∙ sort_key_cmp_itself (sort_key x))
  index_in_row (y ∷ ys) (suc i) x ascend e =
      ap (index_first (sort_key x) ys) (sort_key_cmp_turned (sort_key y) (sort_key x) Less (above_row (sort_key y) ys i x ascend.0 e))
      ∙ ap one_on (index_in_row ys i x ascend.1 e)

  -- a row that is taken away by its index is the one of its sort key
  pub removed_row : (rows rest : List R) (n i : ℕ) (x : R) → SortKeysAscend sort_key rows → n ≡ length rows → i < n → x ≡ get_or rows i x → rest ≡ remove rows i → rest ≡ without_row sort_key (sort_key x) rows
  removed_row rows rest n i x ascend long within read removed = removed ∙ sym (without_row_found (sort_key x) rows i (index_in_row rows i x ascend (slice_get_read rows n i x long within read)))

  pub row_at_row : (rows : List R) (i : ℕ) (x : R) → SortKeysAscend sort_key rows → slice_get rows i ≡ Some x → row_at sort_key (sort_key x) rows ≡ Some x
  row_at_row rows i x ascend e = row_at_found (sort_key x) rows i ascend (index_in_row rows i x ascend e) ∙ e

  sort_key_first : (p : List ℕ) (y : R) (ys : List R) (i : ℕ) (x : R) → ((j : ℕ) → index_in sort_key p ys ≡ Ok j → slice_get ys j ≡ Some x → sort_key x ≡ p) → slice_get (y ∷ ys) i ≡ Some x → (o : Ordering) → sort_key_cmp p (sort_key y) ≡ o → index_first p ys o ≡ Ok i → sort_key x ≡ p
  sort_key_first p y ys i x rest e Less o found = absurd (err≢ok 0 i found)
  sort_key_first p y ys zero x rest e Equal o found = sym (sort_key_cmp_exact p (sort_key y) o ∙ ap sort_key (same_Some y x e))
  sort_key_first p y ys (suc i) x rest e Equal o found = absurd (zero≢suc i (same_Ok 0 (suc i) found))
  sort_key_first p y ys zero x rest e Greater o found = absurd (one_on≢zero (index_in sort_key p ys) found)
  sort_key_first p y ys (suc i) x rest e Greater o found = rest i (one_on_same (index_in sort_key p ys) i found) e

  -- the row that is found has the sort key
  pub sort_key_found : (p : List ℕ) (rows : List R) (i : ℕ) (x : R) → index_in sort_key p rows ≡ Ok i → slice_get rows i ≡ Some x → sort_key x ≡ p
  sort_key_found p [] i x found e = absurd (none-some x e)
  sort_key_found p (y ∷ ys) i x found e = sort_key_first p y ys i x (λ j. sort_key_found p ys j x) e (sort_key_cmp p (sort_key y)) refl found

  -- one row more at the end of those that are put in
  pub set_rows-push : (new : List R) (row : R) (rows : List R) → set_rows sort_key (new ++ row ∷ []) rows ≡ set_row sort_key row (set_rows sort_key new rows)
  set_rows-push [] row rows = refl
  set_rows-push (x ∷ xs) row rows = set_rows-push xs row (set_row sort_key x rows)

  -- ---- A row after all others

  above-push : (p : List ℕ) (row : R) (rows : List R) → sort_key_cmp p (sort_key row) ≡ Less → SortKeysAbove sort_key p rows → SortKeysAbove sort_key p (rows ++ row ∷ [])
  above-push p row [] e above = (e, tt)
  above-push p row (x ∷ xs) e above = (above.0, above-push p row xs e above.1)

  -- a row that comes last keeps the order at the end
  pub ascend-push : (row : R) (rows : List R) → SortKeysAscend sort_key rows → comes_last sort_key row rows ≡ true → SortKeysAscend sort_key (rows ++ row ∷ [])
  ascend-push row [] ascend last = (tt, tt)
  ascend-push row (x ∷ xs) ascend last = (
    above-push (sort_key x) row xs (less_from_is_lt (sort_key_cmp (sort_key x) (sort_key row)) (first_so (is_lt (sort_key_cmp (sort_key x) (sort_key row))) (comes_last sort_key row xs) last)) ascend.0,
    ascend-push row xs ascend.1 (second_so (is_lt (sort_key_cmp (sort_key x) (sort_key row))) (comes_last sort_key row xs) last),
  )

  -- there it is where `set_row` puts it
  pub set_row_last : (row : R) (rows : List R) → comes_last sort_key row rows ≡ true → set_row sort_key row rows ≡ rows ++ row ∷ []
  set_row_last row [] last = refl
  set_row_last row (x ∷ xs) last =
      ap (set_first row x xs) (sort_key_cmp_turned (sort_key x) (sort_key row) Less (less_from_is_lt (sort_key_cmp (sort_key x) (sort_key row)) (first_so (is_lt (sort_key_cmp (sort_key x) (sort_key row))) (comes_last sort_key row xs) last)))
      ∙ ap (λ ys. x ∷ ys) (set_row_last row xs (second_so (is_lt (sort_key_cmp (sort_key x) (sort_key row))) (comes_last sort_key row xs) last))

  -- whether it comes last is told by the last row alone
  pub comes_last_by_last : (row x : R) (rows : List R) (i : ℕ) → SortKeysAscend sort_key rows → i + 1 ≡ length rows → slice_get rows i ≡ Some x → comes_last sort_key row rows ≡ is_lt (sort_key_cmp (sort_key x) (sort_key row))
  comes_last_by_last row x [] i ascend long e = absurd (none-some x e)
  comes_last_by_last row x (y ∷ []) zero ascend long e = and-true (is_lt (sort_key_cmp (sort_key y) (sort_key row))) ∙ ap (λ z. is_lt (sort_key_cmp (sort_key z) (sort_key row))) (same_Some y x e)
  comes_last_by_last row x (y ∷ []) (suc i) ascend long e = absurd (none-some x e)
  comes_last_by_last row x (y ∷ (z ∷ zs)) zero ascend long e = absurd (omega arith)
  comes_last_by_last row x (y ∷ (z ∷ zs)) (suc i) ascend long e =
      ap (λ b. is_lt (sort_key_cmp (sort_key y) (sort_key row)) && b) (comes_last_by_last row x (z ∷ zs) i ascend.1 (omega arith) e)
      ∙ and_implied (is_lt (sort_key_cmp (sort_key y) (sort_key row))) (is_lt (sort_key_cmp (sort_key x) (sort_key row))) (λ lt.
      ap is_lt (sort_key_cmp_trans (sort_key y) (sort_key x) (sort_key row) (above_row (sort_key y) (z ∷ zs) i x ascend.0 e) (less_from_is_lt (sort_key_cmp (sort_key x) (sort_key row)) lt)))

  -- ---- Neighbours

  pub ascend_from_neighbours : (rows : List R) → AllAdjacentBelow (λ x y. sort_key_cmp (sort_key x) (sort_key y) ≡ Less) rows (length rows) → SortKeysAscend sort_key rows
  ascend_from_neighbours [] near = tt
  ascend_from_neighbours (x ∷ []) near = (tt, tt)
  ascend_from_neighbours (x ∷ (y ∷ ys)) near =
      let lt : sort_key_cmp (sort_key x) (sort_key y) ≡ Less = near 0 x (omega arith) in
      let rest : SortKeysAscend sort_key (y ∷ ys) = ascend_from_neighbours (y ∷ ys) (λ k d h.
      subst (λ n. sort_key_cmp (sort_key (get_or (y ∷ ys) k d)) (sort_key (get_or (x ∷ (y ∷ ys)) n d)) ≡ Less) {x = suc k + 1} {y = suc (k + 1)} (omega arith) (near (suc k) d (omega arith))) in
      ((lt, above_trans (sort_key x) (sort_key y) ys lt rest.0), rest)

  pub neighbours_from_ascend : (rows : List R) → SortKeysAscend sort_key rows → AllAdjacentBelow (λ x y. sort_key_cmp (sort_key x) (sort_key y) ≡ Less) rows (length rows)
  neighbours_from_ascend [] ascend k d lt = absurd (omega arith)
  neighbours_from_ascend (x ∷ []) ascend k d lt = absurd (omega arith)
  neighbours_from_ascend (x ∷ (y ∷ ys)) ascend zero d lt = ascend.0.0
  neighbours_from_ascend (x ∷ (y ∷ ys)) ascend (suc k) d lt =
      subst (λ n. sort_key_cmp (sort_key (get_or (y ∷ ys) k d)) (sort_key (get_or (x ∷ (y ∷ ys)) n d)) ≡ Less) {x = suc (k + 1)} {y = suc k + 1} (omega arith) (neighbours_from_ascend (y ∷ ys) ascend.1 k d (omega arith))

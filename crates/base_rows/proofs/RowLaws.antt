-- More laws of rows in the order of their sort keys: lengths, equality, what holds of each row, and images.
use Rattle.std.proofs.Common.{◌≡◌, ℕ, ◌+◌, ◌≤◌, Bool, true, false, cond, List, [], ◌∷◌, length, map, Some, None, refl, sym, ap, subst, ◌∙◌, arith}
use Rattle.std.proofs.lemmas.Option.{same_Some, none-some}
use Rattle.std.specs.List.{filter, AllByRecursion}
use Rattle.std.specs.declared.cmp.Ordering.{Ordering}
use Rattle.std.specs.declared.cmp.Ordering.TheVariants.{Less, Equal, Greater}
use Rattle.base_rows.specs.Sortable.{sort_key_cmp, same_sort_key, SortKeysAbove, SortKeysAscend, row_at, set_row, set_rows, without_row}
use Rattle.base_rows.proofs.SortableLaws.{sort_key_cmp_turned, same_sort_key-cmp, same_sort_key_itself, same_sort_key_exact, above_trans, row_at_above, row_at-set_row, row_at-without_row, ascend-set_row, ascend-without_row}

when_true : {A : Type 0} (b : Bool) (u w : A) → (b ≡ true → w ≡ u) → cond b u w ≡ w
when_true true u w e = sym (e refl)
when_true false u w e = refl

module _ {R : Type 0} (sort_key : R → List ℕ) where
  abbrev set_first : R → R → List R → Ordering → List R
  set_first row x xs o = elim o [ Less ↦ row ∷ (x ∷ xs) | Equal ↦ row ∷ xs | Greater ↦ x ∷ set_row sort_key row xs ]

  abbrev without_first : List ℕ → R → List R → Ordering → List R
  without_first p x xs o = elim o [ Less ↦ x ∷ xs | Equal ↦ xs | Greater ↦ x ∷ without_row sort_key p xs ]

  -- ---- Lengths

  -- there is at most one row more, and never one less
  pub record GrowsByOne (old new : List R) : Type 0 where
    pub kept : length old ≤ length new
    pub grown : length new ≤ length old + 1

  grows_first : (row x : R) (xs : List R) → GrowsByOne xs (set_row sort_key row xs) → (o : Ordering) → GrowsByOne (x ∷ xs) (set_first row x xs o)
  grows_first row x xs rest Less = record { kept = omega arith; grown = omega arith }
  grows_first row x xs rest Equal = record { kept = omega arith; grown = omega arith }
  grows_first row x xs rest Greater = record { kept = omega (arith, rest.kept); grown = omega (arith, rest.grown) }

  pub length-set_row : (row : R) (rows : List R) → GrowsByOne rows (set_row sort_key row rows)
  length-set_row row [] = record { kept = omega arith; grown = omega arith }
  length-set_row row (x ∷ xs) = grows_first row x xs (length-set_row row xs) (sort_key_cmp (sort_key row) (sort_key x))

  pub length-set_rows_le : (new rows : List R) → length (set_rows sort_key new rows) ≤ length rows + length new
  length-set_rows_le [] rows = omega arith
  length-set_rows_le (x ∷ xs) rows = omega (arith, length-set_rows_le xs (set_row sort_key x rows), (length-set_row x rows).grown)

  falls_first : (p : List ℕ) (x : R) (xs : List R) → GrowsByOne (without_row sort_key p xs) xs → (o : Ordering) → GrowsByOne (without_first p x xs o) (x ∷ xs)
  falls_first p x xs rest Less = record { kept = omega arith; grown = omega arith }
  falls_first p x xs rest Equal = record { kept = omega arith; grown = omega arith }
  falls_first p x xs rest Greater = record { kept = omega (arith, rest.kept); grown = omega (arith, rest.grown) }

  pub length-without_row : (p : List ℕ) (rows : List R) → GrowsByOne (without_row sort_key p rows) rows
  length-without_row p [] = record { kept = omega arith; grown = omega arith }
  length-without_row p (x ∷ xs) = falls_first p x xs (length-without_row p xs) (sort_key_cmp p (sort_key x))

  -- ---- Rows that are found alike are the same

  first_found : (x : R) (xs : List R) → row_at sort_key (sort_key x) (x ∷ xs) ≡ Some x
  first_found x xs = ap (λ b. cond b (Some x) (row_at sort_key (sort_key x) xs)) (same_sort_key_itself (sort_key x))

  -- the first row is below all of others
  not_below : (x y : R) (xs ys : List R) → SortKeysAscend sort_key (y ∷ ys) → row_at sort_key (sort_key x) (x ∷ xs) ≡ row_at sort_key (sort_key x) (y ∷ ys) → sort_key_cmp (sort_key x) (sort_key y) ≡ Less → ⊥
  not_below x y xs ys ascend same lt = none-some x (sym (row_at_above sort_key (sort_key x) (y ∷ ys) (lt, above_trans sort_key (sort_key x) (sort_key y) ys lt ascend.0)) ∙ sym same ∙ first_found x xs)

  rest_by : (x y : R) (xs ys : List R) (p : List ℕ) → x ≡ y → SortKeysAscend sort_key (x ∷ xs) → SortKeysAscend sort_key (y ∷ ys) → row_at sort_key p (x ∷ xs) ≡ row_at sort_key p (y ∷ ys) → (b : Bool) → same_sort_key (sort_key x) p ≡ b → row_at sort_key p xs ≡ row_at sort_key p ys
  rest_by x y xs ys p is up up' same true e =
      let here : sort_key x ≡ p = same_sort_key_exact (sort_key x) p e in
      let there : sort_key y ≡ p = ap sort_key (sym is) ∙ here in
      row_at_above sort_key p xs (subst (λ q. SortKeysAbove sort_key q xs) here up.0) ∙ sym (row_at_above sort_key p ys (subst (λ q. SortKeysAbove sort_key q ys) there up'.0))
  rest_by x y xs ys p is up up' same false e =
      sym (ap (λ b. cond b (Some x) (row_at sort_key p xs)) e)
      ∙ same
      ∙ ap (λ b. cond b (Some y) (row_at sort_key p ys)) (ap (λ z. same_sort_key (sort_key z) p) (sym is) ∙ e)

  first_same : (x y : R) (xs ys : List R) → SortKeysAscend sort_key (x ∷ xs) → SortKeysAscend sort_key (y ∷ ys) → ((p : List ℕ) → row_at sort_key p (x ∷ xs) ≡ row_at sort_key p (y ∷ ys)) → (o : Ordering) → sort_key_cmp (sort_key x) (sort_key y) ≡ o → x ≡ y
  first_same x y xs ys up up' same Less e = absurd (not_below x y xs ys up' (same (sort_key x)) e)
  first_same x y xs ys up up' same Equal e =
      same_Some x y (sym (first_found x xs) ∙ same (sort_key x) ∙ ap (λ b. cond b (Some y) (row_at sort_key (sort_key x) ys)) (same_sort_key-cmp (sort_key y) (sort_key x) Equal (sort_key_cmp_turned (sort_key x) (sort_key y) Equal e)))
  first_same x y xs ys up up' same Greater e = absurd (not_below y x ys xs up (sym (same (sort_key y))) (sort_key_cmp_turned (sort_key x) (sort_key y) Greater e))

  -- two lists of ascending rows with the same row at each sort key are one
  pub same_rows : (xs ys : List R) → SortKeysAscend sort_key xs → SortKeysAscend sort_key ys → ((p : List ℕ) → row_at sort_key p xs ≡ row_at sort_key p ys) → xs ≡ ys
  same_rows [] [] up up' same = refl
  same_rows [] (y ∷ ys) up up' same = absurd (none-some y (same (sort_key y) ∙ first_found y ys))
  same_rows (x ∷ xs) [] up up' same = absurd (none-some x (sym (same (sort_key x)) ∙ first_found x xs))
  same_rows (x ∷ xs) (y ∷ ys) up up' same =
      let is : x ≡ y = first_same x y xs ys up up' same (sort_key_cmp (sort_key x) (sort_key y)) refl in
      let rest : xs ≡ ys = same_rows xs ys up.1 up'.1 (λ p. rest_by x y xs ys p is up up' (same p) (same_sort_key (sort_key x) p) refl) in
      λ i. is i ∷ rest i

  -- ---- Changes that change nothing

  -- a row that is there already
  pub set_row_there : (row : R) (rows : List R) → SortKeysAscend sort_key rows → row_at sort_key (sort_key row) rows ≡ Some row → set_row sort_key row rows ≡ rows
  set_row_there row rows ascend there = same_rows (set_row sort_key row rows) rows (ascend-set_row sort_key row rows ascend) ascend (λ p.
      row_at-set_row sort_key row rows p
      ∙ when_true (same_sort_key (sort_key row) p) (Some row) (row_at sort_key p rows) (λ same. subst (λ q. row_at sort_key q rows ≡ Some row) (same_sort_key_exact (sort_key row) p same) there))

  -- a sort key that has no row
  pub without_row_absent : (q : List ℕ) (rows : List R) → SortKeysAscend sort_key rows → row_at sort_key q rows ≡ None → without_row sort_key q rows ≡ rows
  without_row_absent q rows ascend absent = same_rows (without_row sort_key q rows) rows (ascend-without_row sort_key q rows ascend) ascend (λ p.
      row_at-without_row sort_key q rows p ascend
      ∙ when_true (same_sort_key q p) None (row_at sort_key p rows) (λ same. subst (λ r. row_at sort_key r rows ≡ None) (same_sort_key_exact q p same) absent))

  -- ---- What holds of each row

  sort_key_first : (p : List ℕ) (x y : R) (xs : List R) → (row_at sort_key p xs ≡ Some x → sort_key x ≡ p) → (b : Bool) → same_sort_key (sort_key y) p ≡ b → cond b (Some y) (row_at sort_key p xs) ≡ Some x → sort_key x ≡ p
  sort_key_first p x y xs rest true e found = ap sort_key (sym (same_Some y x found)) ∙ same_sort_key_exact (sort_key y) p e
  sort_key_first p x y xs rest false e found = rest found

  -- the row of a sort key has the sort key
  pub sort_key_row_at : (p : List ℕ) (rows : List R) (x : R) → row_at sort_key p rows ≡ Some x → sort_key x ≡ p
  sort_key_row_at p [] x found = absurd (none-some x found)
  sort_key_row_at p (y ∷ ys) x found = sort_key_first p x y ys (sort_key_row_at p ys x) (same_sort_key (sort_key y) p) refl found

  module _ (P : R → Type 0) where
    all_set_first : (row x : R) (xs : List R) → P row → AllByRecursion P (x ∷ xs) → AllByRecursion P (set_row sort_key row xs) → (o : Ordering) → AllByRecursion P (set_first row x xs o)
    all_set_first row x xs new all rest Less = (new, all)
    all_set_first row x xs new all rest Equal = (new, all.1)
    all_set_first row x xs new all rest Greater = (all.0, rest)

    pub all-set_row : (row : R) (rows : List R) → P row → AllByRecursion P rows → AllByRecursion P (set_row sort_key row rows)
    all-set_row row [] new all = (new, tt)
    all-set_row row (x ∷ xs) new all = all_set_first row x xs new all (all-set_row row xs new all.1) (sort_key_cmp (sort_key row) (sort_key x))

    pub all-set_rows : (new rows : List R) → AllByRecursion P new → AllByRecursion P rows → AllByRecursion P (set_rows sort_key new rows)
    all-set_rows [] rows each all = all
    all-set_rows (x ∷ xs) rows each all = all-set_rows xs (set_row sort_key x rows) each.1 (all-set_row x rows each.0 all)

    all_without_first : (p : List ℕ) (x : R) (xs : List R) → AllByRecursion P (x ∷ xs) → AllByRecursion P (without_row sort_key p xs) → (o : Ordering) → AllByRecursion P (without_first p x xs o)
    all_without_first p x xs all rest Less = all
    all_without_first p x xs all rest Equal = all.1
    all_without_first p x xs all rest Greater = (all.0, rest)

    pub all-without_row : (p : List ℕ) (rows : List R) → AllByRecursion P rows → AllByRecursion P (without_row sort_key p rows)
    all-without_row p [] all = all
    all-without_row p (x ∷ xs) all = all_without_first p x xs all (all-without_row p xs all.1) (sort_key_cmp p (sort_key x))

  -- ---- Some of the rows

  above_filter_by : (test : R → Bool) (p : List ℕ) (x : R) (xs : List R) → sort_key_cmp p (sort_key x) ≡ Less → SortKeysAbove sort_key p (filter test xs) → (b : Bool) → SortKeysAbove sort_key p (cond b (x ∷ filter test xs) (filter test xs))
  above_filter_by test p x xs lt rest true = (lt, rest)
  above_filter_by test p x xs lt rest false = rest

  pub above-filter : (test : R → Bool) (p : List ℕ) (rows : List R) → SortKeysAbove sort_key p rows → SortKeysAbove sort_key p (filter test rows)
  above-filter test p [] above = tt
  above-filter test p (x ∷ xs) above = above_filter_by test p x xs above.0 (above-filter test p xs above.1) (test x)

  ascend_filter_by : (test : R → Bool) (x : R) (xs : List R) → SortKeysAbove sort_key (sort_key x) (filter test xs) → SortKeysAscend sort_key (filter test xs) → (b : Bool) → SortKeysAscend sort_key (cond b (x ∷ filter test xs) (filter test xs))
  ascend_filter_by test x xs above rest true = (above, rest)
  ascend_filter_by test x xs above rest false = rest

  -- those that pass a test, as the rows under a prefix, are in order too
  pub ascend-filter : (test : R → Bool) (rows : List R) → SortKeysAscend sort_key rows → SortKeysAscend sort_key (filter test rows)
  ascend-filter test [] ascend = tt
  ascend-filter test (x ∷ xs) ascend = ascend_filter_by test x xs (above-filter test (sort_key x) xs ascend.0) (ascend-filter test xs ascend.1) (test x)

-- ---- Images of rows, whose sort keys stand to one another as theirs do

module _ {R S : Type 0} (sort_key : R → List ℕ) (sort_key' : S → List ℕ) (f : R → S) where
  abbrev image_first : R → R → List R → Ordering → List S
  image_first row x xs o = elim o [ Less ↦ f row ∷ (f x ∷ map f xs) | Equal ↦ f row ∷ map f xs | Greater ↦ f x ∷ set_row sort_key' (f row) (map f xs) ]

  map_set_first : (row x : R) (xs : List R) → map f (set_row sort_key row xs) ≡ set_row sort_key' (f row) (map f xs) → (o : Ordering) → map f (set_first sort_key row x xs o) ≡ image_first row x xs o
  map_set_first row x xs rest Less = refl
  map_set_first row x xs rest Equal = refl
  map_set_first row x xs rest Greater = ap (λ ys. f x ∷ ys) rest

  pub map-set_row : ((x y : R) → sort_key_cmp (sort_key' (f x)) (sort_key' (f y)) ≡ sort_key_cmp (sort_key x) (sort_key y)) → (row : R) (rows : List R) → map f (set_row sort_key row rows) ≡ set_row sort_key' (f row) (map f rows)
  map-set_row alike row [] = refl
  map-set_row alike row (x ∷ xs) =
      map_set_first row x xs (map-set_row alike row xs) (sort_key_cmp (sort_key row) (sort_key x))
      ∙ ap (image_first row x xs) (sym (alike row x))

  abbrev image_without : List ℕ → R → List R → Ordering → List S
  image_without q x xs o = elim o [ Less ↦ f x ∷ map f xs | Equal ↦ map f xs | Greater ↦ f x ∷ without_row sort_key' q (map f xs) ]

  map_without_first : (p q : List ℕ) (x : R) (xs : List R) → map f (without_row sort_key p xs) ≡ without_row sort_key' q (map f xs) → (o : Ordering) → map f (without_first sort_key p x xs o) ≡ image_without q x xs o
  map_without_first p q x xs rest Less = refl
  map_without_first p q x xs rest Equal = refl
  map_without_first p q x xs rest Greater = ap (λ ys. f x ∷ ys) rest

  pub map-without_row : (p q : List ℕ) → ((x : R) → sort_key_cmp q (sort_key' (f x)) ≡ sort_key_cmp p (sort_key x)) → (rows : List R) → map f (without_row sort_key p rows) ≡ without_row sort_key' q (map f rows)
  map-without_row p q alike [] = refl
  map-without_row p q alike (x ∷ xs) =
      map_without_first p q x xs (map-without_row p q alike xs) (sort_key_cmp p (sort_key x))
      ∙ ap (image_without q x xs) (sym (alike x))

  pub above-map : (p q : List ℕ) → ((x : R) → sort_key_cmp q (sort_key' (f x)) ≡ sort_key_cmp p (sort_key x)) → (rows : List R) → SortKeysAbove sort_key p rows → SortKeysAbove sort_key' q (map f rows)
  above-map p q alike [] above = tt
  above-map p q alike (x ∷ xs) above = (alike x ∙ above.0, above-map p q alike xs above.1)

  pub ascend-map : ((x y : R) → sort_key_cmp (sort_key' (f x)) (sort_key' (f y)) ≡ sort_key_cmp (sort_key x) (sort_key y)) → (rows : List R) → SortKeysAscend sort_key rows → SortKeysAscend sort_key' (map f rows)
  ascend-map alike [] ascend = tt
  ascend-map alike (x ∷ xs) ascend = (above-map (sort_key x) (sort_key' (f x)) (alike x) xs ascend.0, ascend-map alike xs ascend.1)

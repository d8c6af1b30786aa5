-- Runs of rows that stand side by side, put in or taken away at once.
use Rattle.std.proofs.Common.{◌≡◌, ℕ, zero, suc, ◌+◌, ◌≤◌, ◌<◌, List, [], ◌∷◌, ◌++◌, length, map, take, drop, reverse, get_or, Result, Ok, Err, refl, sym, ap, subst, ◌∙◌, arith, append_assoc}
use Rattle.std.specs.List.{AllByRecursion}
use Rattle.std.specs.declared.cmp.Ordering.{Ordering}
use Rattle.std.specs.declared.cmp.Ordering.TheVariants.{Less, Equal, Greater}
use Rattle.std.proofs.lemmas.List.{take_more, drop_more, drop-drop, same_from_push, reverse-append, take-append-drop}
use Rattle.base_rows.specs.Sortable.{sort_key_cmp, index_in, one_on, set_row, without_row, SortKeysAbove, SortKeysAscend}
use Rattle.base_rows.proofs.SortableLaws.{above_trans, ascend-set_row, one_on≢zero, one_on_same, err≢ok, same_Ok, zero≢suc}
use Rattle.base_rows.proofs.IndexLaws.{put_before, above-append}

-- ---- From the end of one list to that of another

-- the last of those that are held is the first behind the others
pub record IsMoved {X : Type 0} (xs rest : List X) (n : ℕ) (x : X) : Type 0 where
  pub left : rest ≡ take n xs
  pub next : drop n xs ≡ x ∷ drop (n + 1) xs

pub last_moved : {X : Type 0} (xs held rest : List X) (n m : ℕ) (x : X) → held ≡ take m xs → held ≡ rest ++ x ∷ [] → m ≡ n + 1 → m ≤ length xs → IsMoved xs rest n x
last_moved xs held rest n m x is last more within =
    let lt : n < length xs = omega arith in
    let same = same_from_push rest (take n xs) x (get_or xs n x) (sym last ∙ is ∙ ap (λ k. take k xs) more ∙ take_more xs n x lt) in
    record {
      left = same.0;
      next = drop_more xs n x lt ∙ ap (λ y. y ∷ drop (n + 1) xs) (sym same.1);
    }

-- so it comes behind the images that were added
pub image_added : {X Y : Type 0} (f : X → Y) (ys : List Y) (xs : List X) (n m : ℕ) (x : X) → drop n xs ≡ x ∷ drop (n + 1) xs → m ≡ n + 1 → (ys ++ reverse (map f (drop m xs))) ++ f x ∷ [] ≡ ys ++ reverse (map f (drop n xs))
image_added f ys xs n m x next more =
    append_assoc ys (reverse (map f (drop m xs))) (f x ∷ [])
    ∙ (λ i. ys ++ sym (reverse-append (f x ∷ []) (map f (drop m xs))) i)
    ∙ ap (λ k. ys ++ reverse (f x ∷ map f (drop k xs))) more
    ∙ ap (λ zs. ys ++ reverse (map f zs)) (sym next)

-- ---- Indices

ok≢err : (i j : ℕ) → (let r : Result ℕ ℕ = Ok i in r ≡ Err j) → ⊥
ok≢err i j e = cc

same_Err : (i j : ℕ) → (let r : Result ℕ ℕ = Err i in r ≡ Err j) → i ≡ j
same_Err i j e = cc

one_on≢err : (r : Result ℕ ℕ) → one_on r ≡ Err 0 → ⊥
one_on≢err (Ok i) e = ok≢err (suc i) 0 e
one_on≢err (Err i) e = zero≢suc i (sym (same_Err (suc i) 0 e))

err_before : (r : Result ℕ ℕ) (i : ℕ) → one_on r ≡ Err (suc i) → r ≡ Err i
err_before (Ok j) i e = absurd (ok≢err (suc j) (suc i) e)
err_before (Err j) i e = let same : suc j ≡ suc i = same_Err (suc j) (suc i) e in ap Err (omega arith)

module _ {R : Type 0} (sort_key : R → List ℕ) where
  abbrev index_first : List ℕ → List R → Ordering → Result ℕ ℕ
  index_first p xs o = elim o [ Less ↦ Err 0 | Equal ↦ Ok 0 | Greater ↦ one_on (index_in sort_key p xs) ]

  abbrev set_first : R → R → List R → Ordering → List R
  set_first row x xs o = elim o [ Less ↦ row ∷ (x ∷ xs) | Equal ↦ row ∷ xs | Greater ↦ x ∷ set_row sort_key row xs ]

  abbrev without_first : List ℕ → R → List R → Ordering → List R
  without_first p x xs o = elim o [ Less ↦ x ∷ xs | Equal ↦ xs | Greater ↦ x ∷ without_row sort_key p xs ]

  -- ---- Parts of ascending rows

  above-drop : (p : List ℕ) (n : ℕ) (rows : List R) → SortKeysAbove sort_key p rows → SortKeysAbove sort_key p (drop n rows)
  above-drop p zero rows above = above
  above-drop p (suc n) [] above = tt
  above-drop p (suc n) (x ∷ xs) above = above-drop p n xs above.1

  pub ascend-drop : (n : ℕ) (rows : List R) → SortKeysAscend sort_key rows → SortKeysAscend sort_key (drop n rows)
  ascend-drop zero rows up = up
  ascend-drop (suc n) [] up = tt
  ascend-drop (suc n) (x ∷ xs) up = ascend-drop n xs up.1

  above-take : (p : List ℕ) (n : ℕ) (rows : List R) → SortKeysAbove sort_key p rows → SortKeysAbove sort_key p (take n rows)
  above-take p zero rows above = tt
  above-take p (suc n) [] above = tt
  above-take p (suc n) (x ∷ xs) above = (above.0, above-take p n xs above.1)

  pub ascend-take : (n : ℕ) (rows : List R) → SortKeysAscend sort_key rows → SortKeysAscend sort_key (take n rows)
  ascend-take zero rows up = tt
  ascend-take (suc n) [] up = tt
  ascend-take (suc n) (x ∷ xs) up = (above-take (sort_key x) n xs up.0, ascend-take n xs up.1)

  above_cut : (p : List ℕ) (i n : ℕ) (rows : List R) → SortKeysAbove sort_key p rows → SortKeysAbove sort_key p (take i rows ++ drop n (drop i rows))
  above_cut p i n rows above = above-append sort_key p (take i rows) (drop n (drop i rows)) (above-take p i rows above) (above-drop p n (drop i rows) (above-drop p i rows above))

  ascend_cut : (i n : ℕ) (rows : List R) → SortKeysAscend sort_key rows → SortKeysAscend sort_key (take i rows ++ drop n (drop i rows))
  ascend_cut zero n rows up = ascend-drop n rows up
  ascend_cut (suc i) n [] up = ascend-drop n [] up
  ascend_cut (suc i) n (x ∷ xs) up = (above_cut (sort_key x) i n xs up.0, ascend_cut i n xs up.1)

  -- without a run of them they are still in order
  pub ascend_taken : (i n : ℕ) (rows : List R) → SortKeysAscend sort_key rows → SortKeysAscend sort_key (take i rows ++ drop (i + n) rows)
  ascend_taken i n rows up = subst (λ (ys : List R). SortKeysAscend sort_key (take i rows ++ ys)) (drop-drop n i rows) (ascend_cut i n rows up)

  -- ---- Around the index at which a sort key belongs

  above_first : (p : List ℕ) (x : R) (xs : List R) → SortKeysAscend sort_key (x ∷ xs) → (o : Ordering) → sort_key_cmp p (sort_key x) ≡ o → index_first p xs o ≡ Err 0 → SortKeysAbove sort_key p (x ∷ xs)
  above_first p x xs up Less e found = (e, above_trans sort_key p (sort_key x) xs e up.0)
  above_first p x xs up Equal e found = absurd (ok≢err 0 0 found)
  above_first p x xs up Greater e found = absurd (one_on≢err (index_in sort_key p xs) found)

  above_by : (p : List ℕ) (xs : List R) (i : ℕ) → (index_in sort_key p xs ≡ Err i → SortKeysAbove sort_key p (drop i xs)) → (o : Ordering) → index_first p xs o ≡ Err (suc i) → SortKeysAbove sort_key p (drop i xs)
  above_by p xs i rest Less found = absurd (zero≢suc i (same_Err 0 (suc i) found))
  above_by p xs i rest Equal found = absurd (ok≢err 0 (suc i) found)
  above_by p xs i rest Greater found = rest (err_before (index_in sort_key p xs) i found)

  pub above_rest : (p : List ℕ) (rows : List R) (i : ℕ) → SortKeysAscend sort_key rows → index_in sort_key p rows ≡ Err i → SortKeysAbove sort_key p (drop i rows)
  above_rest p [] zero up found = tt
  above_rest p [] (suc i) up found = tt
  above_rest p (x ∷ xs) zero up found = above_first p x xs up (sort_key_cmp p (sort_key x)) refl found
  above_rest p (x ∷ xs) (suc i) up found = above_by p xs i (above_rest p xs i up.1) (sort_key_cmp p (sort_key x)) found

  -- ---- One row of a run

  put_by : (row x : R) (xs ys : List R) (i : ℕ) → (index_in sort_key (sort_key row) xs ≡ Err i → set_row sort_key row (take i xs ++ ys) ≡ take i xs ++ row ∷ ys) → (o : Ordering) → index_first (sort_key row) xs o ≡ Err (suc i) → set_first row x (take i xs ++ ys) o ≡ x ∷ (take i xs ++ row ∷ ys)
  put_by row x xs ys i rest Less found = absurd (zero≢suc i (same_Err 0 (suc i) found))
  put_by row x xs ys i rest Equal found = absurd (ok≢err 0 (suc i) found)
  put_by row x xs ys i rest Greater found = ap (λ zs. x ∷ zs) (rest (err_before (index_in sort_key (sort_key row) xs) i found))

  -- it is put in at the index at which it belongs, in front of rows that are behind it
  pub put_front : (row : R) (rows ys : List R) (i : ℕ) → index_in sort_key (sort_key row) rows ≡ Err i → SortKeysAbove sort_key (sort_key row) ys → set_row sort_key row (take i rows ++ ys) ≡ take i rows ++ row ∷ ys
  put_front row rows ys zero found above = put_before sort_key row ys above
  put_front row [] ys (suc i) found above = put_before sort_key row ys above
  put_front row (x ∷ xs) ys (suc i) found above = put_by row x xs ys i (λ e. put_front row xs ys i e above) (sort_key_cmp (sort_key row) (sort_key x)) found

  taken_first : (p : List ℕ) (x : R) (xs ys : List R) → (o : Ordering) → index_first p xs o ≡ Ok 0 → without_first p x ys o ≡ ys
  taken_first p x xs ys Less found = absurd (err≢ok 0 0 found)
  taken_first p x xs ys Equal found = refl
  taken_first p x xs ys Greater found = absurd (one_on≢zero (index_in sort_key p xs) found)

  taken_by : (p : List ℕ) (x : R) (xs ys : List R) (i : ℕ) → (index_in sort_key p xs ≡ Ok i → without_row sort_key p (take (suc i) xs ++ ys) ≡ take i xs ++ ys) → (o : Ordering) → index_first p xs o ≡ Ok (suc i) → without_first p x (take (suc i) xs ++ ys) o ≡ x ∷ (take i xs ++ ys)
  taken_by p x xs ys i rest Less found = absurd (err≢ok 0 (suc i) found)
  taken_by p x xs ys i rest Equal found = absurd (zero≢suc i (same_Ok 0 (suc i) found))
  taken_by p x xs ys i rest Greater found = ap (λ zs. x ∷ zs) (rest (one_on_same (index_in sort_key p xs) i found))

  -- it is taken away from its index, whatever stands behind it
  pub taken_front : (p : List ℕ) (rows ys : List R) (i : ℕ) → index_in sort_key p rows ≡ Ok i → without_row sort_key p (take (suc i) rows ++ ys) ≡ take i rows ++ ys
  taken_front p [] ys i found = absurd (err≢ok 0 i found)
  taken_front p (x ∷ xs) ys zero found = taken_first p x xs ys (sort_key_cmp p (sort_key x)) found
  taken_front p (x ∷ xs) ys (suc i) found = taken_by p x xs ys i (taken_front p xs ys i) (sort_key_cmp p (sort_key x)) found

  -- ---- A run

  -- each row of it belongs at the index
  abbrev pub AllBelongAt : ℕ → List R → List R → Type 0
  AllBelongAt i rows run = AllByRecursion (λ row. index_in sort_key (sort_key row) rows ≡ Err i) run

  pub above_run : (p : List ℕ) (run rows : List R) (i : ℕ) → SortKeysAscend sort_key rows → SortKeysAbove sort_key p run → index_in sort_key p rows ≡ Err i → SortKeysAbove sort_key p (run ++ drop i rows)
  above_run p run rows i up above found = above-append sort_key p run (drop i rows) above (above_rest p rows i up found)

  ascend_in : (run rows : List R) (i : ℕ) → SortKeysAscend sort_key rows → SortKeysAscend sort_key run → AllBelongAt i rows run → SortKeysAscend sort_key (take i rows ++ (run ++ drop i rows))
  ascend_in [] rows i up own found = subst (SortKeysAscend sort_key) (sym (take-append-drop i rows)) up
  ascend_in (x ∷ xs) rows i up own found =
      subst (SortKeysAscend sort_key) (put_front x rows (xs ++ drop i rows) i found.0 (above_run (sort_key x) xs rows i up own.0 found.0))
      (ascend-set_row sort_key x (take i rows ++ (xs ++ drop i rows)) (ascend_in xs rows i up own.1 found.1))

  -- with a run put in they are still in order
  pub ascend_put : (run rows : List R) (i : ℕ) → SortKeysAscend sort_key rows → SortKeysAscend sort_key run → AllBelongAt i rows run → SortKeysAscend sort_key (take i rows ++ run ++ drop i rows)
  ascend_put run rows i up own found = subst (SortKeysAscend sort_key) (sym (append_assoc (take i rows) run (drop i rows))) (ascend_in run rows i up own found)

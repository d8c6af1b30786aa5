-- Edits leave the indices of the sort keys before theirs, also among those of the rows that pass a test.
use Rattle.std.proofs.Common.{◌≡◌, ℕ, Bool, true, false, cond, List, [], ◌∷◌, ◌++◌, Result, Ok, Err, refl, sym, ap, subst, ◌∙◌}
use Rattle.std.specs.Prelude.{filter}
use Rattle.std.specs.declared.cmp.Ordering.{Ordering}
use Rattle.std.specs.declared.cmp.Ordering.TheVariants.{Less, Equal, Greater}
use Rattle.base_rows.specs.Sortable.{sort_key_cmp, index_in, one_on, set_row, without_row, SortKeysAbove, SortKeysAscend}
use Rattle.base_rows.proofs.SortableLaws.{sort_key_cmp_exact, above_trans}
use Rattle.base_rows.proofs.RowLaws.{above-filter}
use Rattle.base_rows.specs.declared.edit.Edit.{Edit}
use Rattle.base_rows.specs.Edits.{edit_sort_key, edit_made, edited}
use Rattle.base_rows.proofs.EditLaws.{ascend-edited}

module _ {R : Type 0} (sort_key : R → List ℕ) (t : R → Bool) where
  abbrev step : Result ℕ ℕ → Ordering → Result ℕ ℕ
  step rest o = elim o [ Less ↦ Err 0 | Equal ↦ Ok 0 | Greater ↦ one_on rest ]

  abbrev set_first : R → R → List R → Ordering → List R
  set_first row x xs o = elim o [ Less ↦ row ∷ (x ∷ xs) | Equal ↦ row ∷ xs | Greater ↦ x ∷ set_row sort_key row xs ]

  abbrev without_first : List ℕ → R → List R → Ordering → List R
  without_first q x xs o = elim o [ Less ↦ x ∷ xs | Equal ↦ xs | Greater ↦ x ∷ without_row sort_key q xs ]

  first_of : (p : List ℕ) (rows : List R) → SortKeysAbove sort_key p rows → index_in sort_key p rows ≡ Err 0
  first_of p [] above = refl
  first_of p (x ∷ xs) above = ap (step (index_in sort_key p xs)) above.0

  -- a sort key before those of all rows belongs in front of those that pass
  in_front : (p : List ℕ) (xs ys : List R) → SortKeysAbove sort_key p xs → SortKeysAbove sort_key p ys → index_in sort_key p (filter t xs) ≡ index_in sort_key p (filter t ys)
  in_front p xs ys above above' = first_of p (filter t xs) (above-filter sort_key t p xs above) ∙ sym (first_of p (filter t ys) (above-filter sort_key t p ys above'))

  behind_by : (p : List ℕ) (x : R) (xs ys : List R) → index_in sort_key p xs ≡ index_in sort_key p ys → (b : Bool) → index_in sort_key p (cond b (x ∷ xs) xs) ≡ index_in sort_key p (cond b (x ∷ ys) ys)
  behind_by p x xs ys rest true = ap (λ (r : Result ℕ ℕ). step r (sort_key_cmp p (sort_key x))) rest
  behind_by p x xs ys rest false = rest

  set_by : (p : List ℕ) (row x : R) (xs : List R) → SortKeysAbove sort_key (sort_key x) xs → sort_key_cmp p (sort_key row) ≡ Less → index_in sort_key p (filter t (set_row sort_key row xs)) ≡ index_in sort_key p (filter t xs)
      → (o : Ordering) → sort_key_cmp (sort_key row) (sort_key x) ≡ o → index_in sort_key p (filter t (set_first row x xs o)) ≡ index_in sort_key p (filter t (x ∷ xs))
  set_by p row x xs up less rest Less e =
      let above : SortKeysAbove sort_key p (x ∷ xs) = above_trans sort_key p (sort_key row) (x ∷ xs) less (e, above_trans sort_key (sort_key row) (sort_key x) xs e up) in
      in_front p (row ∷ (x ∷ xs)) (x ∷ xs) (less, above) above
  set_by p row x xs up less rest Equal e =
      let below : sort_key_cmp p (sort_key x) ≡ Less = subst (λ (q : List ℕ). sort_key_cmp p q ≡ Less) (sort_key_cmp_exact (sort_key row) (sort_key x) e) less in
      let above : SortKeysAbove sort_key p xs = above_trans sort_key p (sort_key x) xs below up in
      in_front p (row ∷ xs) (x ∷ xs) (less, above) (below, above)
  set_by p row x xs up less rest Greater e = behind_by p x (filter t (set_row sort_key row xs)) (filter t xs) rest (t x)

  index_set : (p : List ℕ) (row : R) (rows : List R) → SortKeysAscend sort_key rows → sort_key_cmp p (sort_key row) ≡ Less → index_in sort_key p (filter t (set_row sort_key row rows)) ≡ index_in sort_key p (filter t rows)
  index_set p row [] up less = in_front p (row ∷ []) [] (less, tt) tt
  index_set p row (x ∷ xs) up less = set_by p row x xs up.0 less (index_set p row xs up.1 less) (sort_key_cmp (sort_key row) (sort_key x)) refl

  without_by : (p q : List ℕ) (x : R) (xs : List R) → SortKeysAbove sort_key (sort_key x) xs → sort_key_cmp p q ≡ Less → index_in sort_key p (filter t (without_row sort_key q xs)) ≡ index_in sort_key p (filter t xs)
      → (o : Ordering) → sort_key_cmp q (sort_key x) ≡ o → index_in sort_key p (filter t (without_first q x xs o)) ≡ index_in sort_key p (filter t (x ∷ xs))
  without_by p q x xs up less rest Less e = refl
  without_by p q x xs up less rest Equal e =
      let below : sort_key_cmp p (sort_key x) ≡ Less = subst (λ (r : List ℕ). sort_key_cmp p r ≡ Less) (sort_key_cmp_exact q (sort_key x) e) less in
      let above : SortKeysAbove sort_key p xs = above_trans sort_key p (sort_key x) xs below up in
      in_front p xs (x ∷ xs) above (below, above)
  without_by p q x xs up less rest Greater e = behind_by p x (filter t (without_row sort_key q xs)) (filter t xs) rest (t x)

  index_without : (p q : List ℕ) (rows : List R) → SortKeysAscend sort_key rows → sort_key_cmp p q ≡ Less → index_in sort_key p (filter t (without_row sort_key q rows)) ≡ index_in sort_key p (filter t rows)
  index_without p q [] up less = refl
  index_without p q (x ∷ xs) up less = without_by p q x xs up.0 less (index_without p q xs up.1 less) (sort_key_cmp q (sort_key x)) refl

  made_by : (p : List ℕ) (e : Edit R) (rows : List R) → SortKeysAscend sort_key rows → sort_key_cmp p (sort_key e.row) ≡ Less
      → (b : Bool) → index_in sort_key p (filter t (cond b (set_row sort_key e.row rows) (without_row sort_key (sort_key e.row) rows))) ≡ index_in sort_key p (filter t rows)
  made_by p e rows up less true = index_set p e.row rows up less
  made_by p e rows up less false = index_without p (sort_key e.row) rows up less

  -- edits behind a sort key leave its index among the rows that pass a test
  pub index_edited : (p : List ℕ) (es : List (Edit R)) (rows : List R) → SortKeysAscend sort_key rows → SortKeysAbove (edit_sort_key sort_key) p es → index_in sort_key p (filter t (edited sort_key es rows)) ≡ index_in sort_key p (filter t rows)
  unfolding edited edit_made edit_sort_key
  index_edited p [] rows up above = refl
  index_edited p (e ∷ es) rows up above = made_by p e (edited sort_key es rows) (ascend-edited sort_key es rows up) above.0 e.comes ∙ index_edited p es rows up above.1

module _ {R : Type 0} (sort_key : R → List ℕ) where
  pub above_right : (p : List ℕ) (xs ys : List R) → SortKeysAbove sort_key p (xs ++ ys) → SortKeysAbove sort_key p ys
  above_right p [] ys above = above
  above_right p (x ∷ xs) ys above = above_right p xs ys above.1

-- What a change of rows makes of the row of each sort key.
use Rattle.std.proofs.Common.{◌≡◌, ℕ, Bool, true, false, cond, not, ◌||◌, List, [], ◌∷◌, map, Option, Some, None, refl, sym, ap, subst, ◌∙◌}
use Rattle.std.specs.List.{list_any}
use Rattle.std.proofs.lemmas.Bool.{false≢true}
use Rattle.std.specs.Cmp.{both_ways}
use Rattle.base_rows.specs.Sortable.{same_sort_key, SortKeysAscend, row_at, set_row, set_rows, without_row}
use Rattle.base_rows.specs.Changes.{RowChange, without_gone, changed, with_found, sort_keys_of, rows_at, are_apart, is_plain}
use Rattle.base_rows.proofs.SortableLaws.{same_sort_key_exact, same_sort_key_itself, row_at-set_row_same, row_at-set_row_other, row_at-without_row}
use Rattle.base_rows.proofs.ListTests.{left_of, right_of, or_first, or_second, not_false, any_first, any_later, any_by}

pub differ_turned : (p q : List ℕ) → same_sort_key p q ≡ false → same_sort_key q p ≡ false
differ_turned p q e = by_test (same_sort_key q p) refl
  where
    by_test : (b : Bool) → same_sort_key q p ≡ b → same_sort_key q p ≡ false
    by_test true is = absurd (false≢true (sym e ∙ subst (λ r. same_sort_key p r ≡ true) (sym (same_sort_key_exact q p is)) (same_sort_key_itself p)))
    by_test false is = is

pub same_sort_key_turned : (p q : List ℕ) → same_sort_key p q ≡ same_sort_key q p
same_sort_key_turned p q =
    both_ways (same_sort_key p q) (same_sort_key q p)
    (λ e. ap (λ (r : List ℕ). same_sort_key r p) (sym (same_sort_key_exact p q e)) ∙ same_sort_key_itself p)
    (λ e. ap (λ (r : List ℕ). same_sort_key r q) (sym (same_sort_key_exact q p e)) ∙ same_sort_key_itself q)

-- ---- The rows at sort keys

module _ {R : Type 0} (sort_key : R → List ℕ) where
  -- a row that passes the test, at one of the sort keys
  pub record PassingAt (test : R → Bool) (qs : List (List ℕ)) (rows : List R) : Type 0 where
    pub at : List ℕ
    pub one_of : list_any (same_sort_key at) qs ≡ true
    pub row : R
    pub there : row_at sort_key at rows ≡ Some row
    pub passes : test row ≡ true

  pub found_at : (test : R → Bool) (qs : List (List ℕ)) (rows : List R) → list_any test (rows_at sort_key qs rows) ≡ true → PassingAt test qs rows
  found_at test [] rows e = absurd (false≢true e)
  found_at test (q ∷ qs) rows e = by_row (row_at sort_key q rows) refl e (found_at test qs rows)
    where
      later : PassingAt test qs rows → PassingAt test (q ∷ qs) rows
      later r = record { at = r.at; one_of = any_later (same_sort_key r.at) q qs r.one_of; row = r.row; there = r.there; passes = r.passes }

      by_row : (o : Option R) → row_at sort_key q rows ≡ o → list_any test (with_found o (rows_at sort_key qs rows)) ≡ true → (list_any test (rows_at sort_key qs rows) ≡ true → PassingAt test qs rows) → PassingAt test (q ∷ qs) rows
      by_row None is found rest = later (rest found)
      by_row (Some x) is found rest = any_by test x (rows_at sort_key qs rows)
          (λ here. record { at = q; one_of = any_first (same_sort_key q) q qs (same_sort_key_itself q); row = x; there = is; passes = here })
          (λ more. later (rest more)) found

  any_with : (test : R → Bool) (o : Option R) (xs : List R) → list_any test xs ≡ true → list_any test (with_found o xs) ≡ true
  any_with test None xs e = e
  any_with test (Some x) xs e = any_later test x xs e

  pub at_found : (test : R → Bool) (q : List ℕ) (row : R) (qs : List (List ℕ)) (rows : List R) → list_any (same_sort_key q) qs ≡ true → row_at sort_key q rows ≡ Some row → test row ≡ true → list_any test (rows_at sort_key qs rows) ≡ true
  at_found test q row [] rows one there e = absurd (false≢true one)
  at_found test q row (p ∷ ps) rows one there e = any_by (same_sort_key q) p ps
      (λ here. subst (λ o. list_any test (with_found o (rows_at sort_key ps rows)) ≡ true) (sym (ap (λ r. row_at sort_key r rows) (sym (same_sort_key_exact q p here)) ∙ there)) (any_first test row (rows_at sort_key ps rows) e))
      (λ later. any_with test (row_at sort_key p rows) (rows_at sort_key ps rows) (at_found test q row ps rows later there e)) one

  -- ---- The row of each sort key

  -- rows that are put in leave those of other sort keys
  pub row_at-set_rows_other : (new rows : List R) (q : List ℕ) → list_any (same_sort_key q) (map sort_key new) ≡ false → row_at sort_key q (set_rows sort_key new rows) ≡ row_at sort_key q rows
  row_at-set_rows_other [] rows q other = refl
  row_at-set_rows_other (x ∷ xs) rows q other =
      row_at-set_rows_other xs (set_row sort_key x rows) q (or_second (same_sort_key q (sort_key x)) (list_any (same_sort_key q) (map sort_key xs)) other)
      ∙ row_at-set_row_other sort_key x rows q (differ_turned q (sort_key x) (or_first (same_sort_key q (sort_key x)) (list_any (same_sort_key q) (map sort_key xs)) other))

  without_gone_other : (gone : Option (List ℕ)) (rows : List R) (q : List ℕ) → SortKeysAscend sort_key rows → list_any (same_sort_key q) (with_found gone []) ≡ false → row_at sort_key q (without_gone sort_key gone rows) ≡ row_at sort_key q rows
  without_gone_other None rows q up other = refl
  without_gone_other (Some p) rows q up other = row_at-without_row sort_key p rows q up ∙ ap (λ b. cond b None (row_at sort_key q rows)) (differ_turned q p (or_first (same_sort_key q p) false other))

  -- which sort key a list with one more has not
  with_other : (gone : Option (List ℕ)) (ps : List (List ℕ)) (q : List ℕ) → list_any (same_sort_key q) (with_found gone ps) ≡ false → (list_any (same_sort_key q) (with_found gone []) ≡ false) × (list_any (same_sort_key q) ps ≡ false)
  with_other None ps q other = (refl, other)
  with_other (Some p) ps q other = (ap (λ b. b || false) (or_first (same_sort_key q p) (list_any (same_sort_key q) ps) other), or_second (same_sort_key q p) (list_any (same_sort_key q) ps) other)

  -- a sort key that the change doesn't touch keeps its row
  pub row_at-changed_other : (change : RowChange R) (rows : List R) (q : List ℕ) → SortKeysAscend sort_key rows → list_any (same_sort_key q) (sort_keys_of sort_key change) ≡ false → row_at sort_key q (changed sort_key change rows) ≡ row_at sort_key q rows
  unfolding sort_keys_of changed
  row_at-changed_other change rows q up other =
      row_at-set_rows_other change.sets (without_gone sort_key change.gone rows) q (with_other change.gone (map sort_key change.sets) q other).1
      ∙ without_gone_other change.gone rows q up (with_other change.gone (map sort_key change.sets) q other).0

  -- ---- The rows that stand at the sort keys that were touched

  sets_found : (xs rows : List R) → are_apart same_sort_key (map sort_key xs) ≡ true → rows_at sort_key (map sort_key xs) (set_rows sort_key xs rows) ≡ xs
  sets_found [] rows once = refl
  sets_found (x ∷ xs) rows once =
      ap (λ o. with_found o (rows_at sort_key (map sort_key xs) (set_rows sort_key xs (set_row sort_key x rows))))
      (row_at-set_rows_other xs (set_row sort_key x rows) (sort_key x) (not_false (list_any (same_sort_key (sort_key x)) (map sort_key xs)) (left_of (not (list_any (same_sort_key (sort_key x)) (map sort_key xs))) (are_apart same_sort_key (map sort_key xs)) once))
      ∙ row_at-set_row_same sort_key x rows)
      ∙ ap (λ ys. x ∷ ys) (sets_found xs (set_row sort_key x rows) (right_of (not (list_any (same_sort_key (sort_key x)) (map sort_key xs))) (are_apart same_sort_key (map sort_key xs)) once))

  new_found : (gone : Option (List ℕ)) (sets rows : List R) → SortKeysAscend sort_key rows → are_apart same_sort_key (with_found gone (map sort_key sets)) ≡ true → rows_at sort_key (with_found gone (map sort_key sets)) (set_rows sort_key sets (without_gone sort_key gone rows)) ≡ sets
  new_found None sets rows up once = sets_found sets rows once
  new_found (Some p) sets rows up once =
      ap (λ o. with_found o (rows_at sort_key (map sort_key sets) (set_rows sort_key sets (without_row sort_key p rows))))
      (row_at-set_rows_other sets (without_row sort_key p rows) p (not_false (list_any (same_sort_key p) (map sort_key sets)) (left_of (not (list_any (same_sort_key p) (map sort_key sets))) (are_apart same_sort_key (map sort_key sets)) once))
      ∙ row_at-without_row sort_key p rows p up
      ∙ ap (λ b. cond b None (row_at sort_key p rows)) (same_sort_key_itself p))
      ∙ sets_found sets (without_row sort_key p rows) (right_of (not (list_any (same_sort_key p) (map sort_key sets))) (are_apart same_sort_key (map sort_key sets)) once)

  pub new_rows : (change : RowChange R) (rows : List R) → SortKeysAscend sort_key rows → is_plain sort_key change ≡ true → rows_at sort_key (sort_keys_of sort_key change) (changed sort_key change rows) ≡ change.sets
  unfolding is_plain sort_keys_of changed
  new_rows change rows up once = new_found change.gone change.sets rows up once

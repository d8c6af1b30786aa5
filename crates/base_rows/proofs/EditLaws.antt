-- What edits make of rows, sort key by sort key; and the edits that are made from the last to the first.
use Rattle.std.proofs.Common.{◌≡◌, ℕ, zero, suc, ◌+◌, Bool, true, false, cond, List, [], ◌∷◌, ◌++◌, length, Option, Some, None, refl, sym, ap, subst, ◌∙◌, arith, length-append}
use Rattle.std.specs.List.{slice_get}
use Rattle.std.specs.Option.{option_map_or}
use Rattle.std.specs.declared.cmp.Ordering.{Ordering}
use Rattle.std.specs.declared.cmp.Ordering.TheVariants.{Less, Equal, Greater}
use Rattle.std.proofs.lemmas.Option.{same_Some}
use Rattle.base_rows.specs.Sortable.{sort_key_cmp, same_sort_key, row_at, index_in, set_row, without_row, SortKeysAbove, SortKeysBelow, SortKeysAscend}
use Rattle.base_rows.proofs.SortableLaws.{sort_key_cmp_itself, sort_key_cmp_turned, row_at-set_row, row_at-without_row, ascend-set_row, ascend-without_row, above_row}
use Rattle.base_rows.proofs.RowLaws.{same_rows}
use Rattle.base_rows.proofs.IndexLaws.{index_in-set_row_behind, index_in-without_row_behind}
use Rattle.base_rows.specs.declared.edit.Edit.{Edit}
use Rattle.base_rows.specs.Edits.{edit_sort_key, row_after, edit_made, edited, AreFound}

module _ {R : Type 0} (sort_key : R → List ℕ) where
  -- ---- Sort key by sort key

  ascend_by : (e : Edit R) (rows : List R) → SortKeysAscend sort_key rows → (b : Bool) → SortKeysAscend sort_key (cond b (set_row sort_key e.row rows) (without_row sort_key (sort_key e.row) rows))
  ascend_by e rows up true = ascend-set_row sort_key e.row rows up
  ascend_by e rows up false = ascend-without_row sort_key (sort_key e.row) rows up

  pub ascend-edit_made : (e : Edit R) (rows : List R) → SortKeysAscend sort_key rows → SortKeysAscend sort_key (edit_made sort_key e rows)
  unfolding edit_made
  ascend-edit_made e rows up = ascend_by e rows up e.comes

  pub ascend-edited : (es : List (Edit R)) (rows : List R) → SortKeysAscend sort_key rows → SortKeysAscend sort_key (edited sort_key es rows)
  unfolding edited
  ascend-edited [] rows up = up
  ascend-edited (e ∷ es) rows up = ascend-edit_made e (edited sort_key es rows) (ascend-edited es rows up)

  row_by : (p : List ℕ) (e : Edit R) (rows : List R) → SortKeysAscend sort_key rows → (b : Bool)
      → row_at sort_key p (cond b (set_row sort_key e.row rows) (without_row sort_key (sort_key e.row) rows)) ≡ cond (same_sort_key (sort_key e.row) p) (cond b (Some e.row) None) (row_at sort_key p rows)
  row_by p e rows up true = row_at-set_row sort_key e.row rows p
  row_by p e rows up false = row_at-without_row sort_key (sort_key e.row) rows p up

  pub row_at-edit_made : (p : List ℕ) (e : Edit R) (rows : List R) → SortKeysAscend sort_key rows → row_at sort_key p (edit_made sort_key e rows) ≡ cond (same_sort_key (edit_sort_key sort_key e) p) (row_after e) (row_at sort_key p rows)
  unfolding edit_made edit_sort_key row_after
  row_at-edit_made p e rows up = row_by p e rows up e.comes

  said_by : (e : Edit R) (later : Option (Edit R)) (old : Option R) (b : Bool) → cond b (row_after e) (option_map_or row_after later old) ≡ option_map_or row_after (cond b (Some e) later) old
  said_by e later old true = refl
  said_by e later old false = refl

  pub row_at-edited : (p : List ℕ) (es : List (Edit R)) (rows : List R) → SortKeysAscend sort_key rows → row_at sort_key p (edited sort_key es rows) ≡ option_map_or row_after (row_at (edit_sort_key sort_key) p es) (row_at sort_key p rows)
  unfolding edited
  row_at-edited p [] rows up = refl
  row_at-edited p (e ∷ es) rows up =
      row_at-edit_made p e (edited sort_key es rows) (ascend-edited es rows up)
      ∙ ap (cond (same_sort_key (edit_sort_key sort_key e) p) (row_after e)) (row_at-edited p es rows up)
      ∙ said_by e (row_at (edit_sort_key sort_key) p es) (row_at sort_key p rows) (same_sort_key (edit_sort_key sort_key e) p)

  -- ---- One edit more

  pub edited-set_row : (e : Edit R) (es : List (Edit R)) (rows : List R) → SortKeysAscend sort_key rows → SortKeysAscend (edit_sort_key sort_key) es → edited sort_key (set_row (edit_sort_key sort_key) e es) rows ≡ edit_made sort_key e (edited sort_key es rows)
  edited-set_row e es rows up up' =
      same_rows sort_key (edited sort_key (set_row (edit_sort_key sort_key) e es) rows) (edit_made sort_key e (edited sort_key es rows))
      (ascend-edited (set_row (edit_sort_key sort_key) e es) rows up)
      (ascend-edit_made e (edited sort_key es rows) (ascend-edited es rows up))
      (λ p.
      row_at-edited p (set_row (edit_sort_key sort_key) e es) rows up
      ∙ ap (λ (o : Option (Edit R)). option_map_or row_after o (row_at sort_key p rows)) (row_at-set_row (edit_sort_key sort_key) e es p)
      ∙ sym (said_by e (row_at (edit_sort_key sort_key) p es) (row_at sort_key p rows) (same_sort_key (edit_sort_key sort_key e) p))
      ∙ ap (cond (same_sort_key (edit_sort_key sort_key e) p) (row_after e)) (sym (row_at-edited p es rows up))
      ∙ sym (row_at-edit_made p e (edited sort_key es rows) (ascend-edited es rows up)))

  -- ---- From the last to the first

  pub edited-last : (es : List (Edit R)) (e : Edit R) (rows : List R) → edited sort_key (es ++ e ∷ []) rows ≡ edited sort_key es (edit_made sort_key e rows)
  unfolding edited
  edited-last [] e rows = refl
  edited-last (x ∷ es) e rows = ap (edit_made sort_key x) (edited-last es e rows)

  found_by : (x e : Edit R) (rows : List R) → SortKeysAscend sort_key rows → sort_key_cmp (sort_key x.row) (sort_key e.row) ≡ Less → (b : Bool) → index_in sort_key (sort_key x.row) (cond b (set_row sort_key e.row rows) (without_row sort_key (sort_key e.row) rows)) ≡ index_in sort_key (sort_key x.row) rows
  found_by x e rows up less true = index_in-set_row_behind sort_key (sort_key x.row) e.row rows less
  found_by x e rows up less false = index_in-without_row_behind sort_key (sort_key x.row) (sort_key e.row) rows up less

  pub found_kept : (es : List (Edit R)) (e : Edit R) (rows : List R) → SortKeysAscend sort_key rows → SortKeysBelow (edit_sort_key sort_key) (sort_key e.row) es → AreFound sort_key rows (es ++ e ∷ []) → AreFound sort_key (edit_made sort_key e rows) es
  unfolding edit_made edit_sort_key
  found_kept [] e rows up below found = tt
  found_kept (x ∷ es) e rows up below found = (found.0 ∙ sym (found_by x e rows up below.0 e.comes), found_kept es e rows up below.1 found.1)

  pub found_last : (es : List (Edit R)) (e : Edit R) (rows : List R) → AreFound sort_key rows (es ++ e ∷ []) → e.found ≡ index_in sort_key (sort_key e.row) rows
  found_last [] e rows found = found.0
  found_last (x ∷ es) e rows found = found_last es e rows found.1

module _ {R : Type 0} (sort_key : R → List ℕ) where
  abbrev without_first : List ℕ → R → List R → Ordering → List R
  without_first q x xs o = elim o [ Less ↦ x ∷ xs | Equal ↦ xs | Greater ↦ x ∷ without_row sort_key q xs ]

  -- ascending rows are those before the last, and the last
  pub last_split : (xs : List R) (i : ℕ) (x : R) → SortKeysAscend sort_key xs → i + 1 ≡ length xs → slice_get xs i ≡ Some x → xs ≡ without_row sort_key (sort_key x) xs ++ x ∷ []
  last_split [] i x up long is = absurd (omega arith)
  last_split (y ∷ []) zero x up long is =
      let same : y ≡ x = same_Some y x is in
      ap (λ (z : R). z ∷ []) same
      ∙ ap (λ (o : Ordering). without_first (sort_key x) y [] o ++ x ∷ []) (sym (ap (λ (z : R). sort_key_cmp (sort_key x) (sort_key z)) same ∙ sort_key_cmp_itself (sort_key x)))
  last_split (y ∷ []) (suc i) x up long is = absurd (omega arith)
  last_split (y ∷ z ∷ zs) zero x up long is = absurd (omega arith)
  last_split (y ∷ z ∷ zs) (suc i) x up long is =
      let less : sort_key_cmp (sort_key y) (sort_key x) ≡ Less = above_row sort_key (sort_key y) (z ∷ zs) i x up.0 is in
      ap (λ (ws : List R). y ∷ ws) (last_split (z ∷ zs) i x up.1 (omega arith) is)
      ∙ ap (λ (o : Ordering). without_first (sort_key x) y (z ∷ zs) o ++ x ∷ []) (sym (sort_key_cmp_turned (sort_key y) (sort_key x) Less less))

  above_last : (p : List ℕ) (xs : List R) (x : R) → SortKeysAbove sort_key p (xs ++ x ∷ []) → sort_key_cmp p (sort_key x) ≡ Less
  above_last p [] x above = above.0
  above_last p (y ∷ ys) x above = above_last p ys x above.1

  pub below_last : (xs : List R) (x : R) → SortKeysAscend sort_key (xs ++ x ∷ []) → SortKeysBelow sort_key (sort_key x) xs
  below_last [] x up = tt
  below_last (y ∷ ys) x up = (above_last (sort_key y) ys x up.0, below_last ys x up.1)

-- ---- The last of the edits that are left

module _ {R : Type 0} (sort_key : R → List ℕ) where
  -- the last edit may be made now, and the others afterwards
  pub record IsLast (rows : List R) (es rest : List (Edit R)) (e : Edit R) : Type 0 where
    pub long : length es ≡ length rest + 1
    pub here : e.found ≡ index_in sort_key (sort_key e.row) rows
    pub made : edited sort_key rest (edit_made sort_key e rows) ≡ edited sort_key es rows
    pub others : AreFound sort_key (edit_made sort_key e rows) rest

  by_split : (rows : List R) (es rest : List (Edit R)) (e : Edit R) → SortKeysAscend sort_key rows → SortKeysAscend (edit_sort_key sort_key) (rest ++ e ∷ []) → es ≡ rest ++ e ∷ [] → AreFound sort_key rows (rest ++ e ∷ []) → IsLast rows es rest e
  unfolding edit_sort_key
  by_split rows es rest e up up' split found = record {
    long = ap length split ∙ length-append rest (e ∷ []);
    here = found_last sort_key rest e rows found;
    made = sym (edited-last sort_key rest e rows) ∙ ap (λ (ws : List (Edit R)). edited sort_key ws rows) (sym split);
    others = found_kept sort_key rest e rows up (below_last (edit_sort_key sort_key) rest e up') found;
  }

  pub is_last : (rows : List R) (es rest : List (Edit R)) (e : Edit R) (i : ℕ) → SortKeysAscend sort_key rows → SortKeysAscend (edit_sort_key sort_key) es → length es ≡ i + 1 → slice_get es i ≡ Some e → rest ≡ without_row (edit_sort_key sort_key) (edit_sort_key sort_key e) es → AreFound sort_key rows es → IsLast rows es rest e
  is_last rows es rest e i up up' long is left found =
      let split : es ≡ rest ++ e ∷ [] = last_split (edit_sort_key sort_key) es i e up' (sym long) is ∙ ap (λ (ws : List (Edit R)). ws ++ e ∷ []) (sym left) in
      by_split rows es rest e up (subst (SortKeysAscend (edit_sort_key sort_key)) split up') split (subst (AreFound sort_key rows) split found)

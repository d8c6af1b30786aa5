-- The rows of an entry are planned by themselves, and then put among those of others.
use Rattle.std.proofs.Common.{◌≡◌, ℕ, Bool, true, false, cond, List, [], ◌∷◌, Option, Some, None, refl, ap, ◌∙◌}
use Rattle.base_rows.specs.Sortable.{set_row, set_rows, SortKeysAscend}
use Rattle.base_rows.proofs.SortableLaws.{ascend-set_row}
use Rattle.base_rows.proofs.MergeLaws.{set_row-set_rows}
use Rattle.acl_model.specs.declared.binding.Binding.{Binding}
use Rattle.base_rows.specs.declared.edit.Edit.{Edit}
use Rattle.base_rows.specs.Edits.{edit_sort_key}
use Rattle.acl_rows.specs.declared.row.Row.{Row}
use Rattle.acl_rows.specs.declared.row.RowKey.{RowKey}
use Rattle.acl_rows.specs.SortKeys.{row_sort_key, named_sort_key}
use Rattle.acl_rows.specs.ByAddress.{index_beside}
use Rattle.acl_rows.specs.Rows.{Slots, row, rows_of}
use Rattle.acl_changes.specs.Touched.{key_expiry, changed_edits, edit_of, same_expiry, with_edit}
use Rattle.acl_changes.specs.Fresh.{Fresh, fresh_of, row_with, expiry_kept, one_fresh, more_fresh, joined, AreSorted}

-- ---- One row

edit_by : (e : Edit Row) (more edits : List (Edit Row)) → SortKeysAscend (edit_sort_key row_sort_key) more → SortKeysAscend (edit_sort_key row_sort_key) edits → (b : Bool)
    → set_rows (edit_sort_key row_sort_key) (cond b more (set_row (edit_sort_key row_sort_key) e more)) edits ≡ cond b (set_rows (edit_sort_key row_sort_key) more edits) (set_row (edit_sort_key row_sort_key) e (set_rows (edit_sort_key row_sort_key) more edits))
edit_by e more edits up up' true = refl
edit_by e more edits up up' false = set_row-set_rows (edit_sort_key row_sort_key) e more edits up up'

edit_sorted_by : (e : Edit Row) (more : List (Edit Row)) → SortKeysAscend (edit_sort_key row_sort_key) more → (b : Bool) → SortKeysAscend (edit_sort_key row_sort_key) (cond b more (set_row (edit_sort_key row_sort_key) e more))
edit_sorted_by e more up true = up
edit_sorted_by e more up false = ascend-set_row (edit_sort_key row_sort_key) e more up

row_by : (key : RowKey) (more rows : List Row) → SortKeysAscend row_sort_key more → SortKeysAscend row_sort_key rows → (o : Option ℕ) → set_rows row_sort_key (row_with key o more) rows ≡ row_with key o (set_rows row_sort_key more rows)
unfolding row_with
row_by key more rows up up' None = refl
row_by key more rows up up' (Some u) = set_row-set_rows row_sort_key (row key.owner key.side key.addr key.entry u) more rows up up'

row_sorted_by : (key : RowKey) (more : List Row) → SortKeysAscend row_sort_key more → (o : Option ℕ) → SortKeysAscend row_sort_key (row_with key o more)
unfolding row_with
row_sorted_by key more up None = up
row_sorted_by key more up (Some u) = ascend-set_row row_sort_key (row key.owner key.side key.addr key.entry u) more up

module _ (slots : Slots) (bindings : List Binding) (new : Slots) where
  edits_joined : (key : RowKey) (more edits : List (Edit Row)) → SortKeysAscend (edit_sort_key row_sort_key) more → SortKeysAscend (edit_sort_key row_sort_key) edits
      → set_rows (edit_sort_key row_sort_key) (with_edit slots bindings new bindings key more) edits ≡ with_edit slots bindings new bindings key (set_rows (edit_sort_key row_sort_key) more edits)
  unfolding with_edit changed_edits
  edits_joined key more edits up up' =
      let old = key_expiry slots bindings key in
      let next = key_expiry new bindings key in
      edit_by (edit_of key (index_beside key.owner key.side key.addr (named_sort_key key) (rows_of slots bindings)) old next) more edits up up' (same_expiry next old)

  edits_sorted : (key : RowKey) (more : List (Edit Row)) → SortKeysAscend (edit_sort_key row_sort_key) more → SortKeysAscend (edit_sort_key row_sort_key) (with_edit slots bindings new bindings key more)
  unfolding with_edit changed_edits
  edits_sorted key more up =
      let old = key_expiry slots bindings key in
      let next = key_expiry new bindings key in
      edit_sorted_by (edit_of key (index_beside key.owner key.side key.addr (named_sort_key key) (rows_of slots bindings)) old next) more up (same_expiry next old)

  one_joined : (key : RowKey) (more s : Fresh) → AreSorted more → AreSorted s → joined (one_fresh slots bindings new key more) s ≡ one_fresh slots bindings new key (joined more s)
  unfolding joined one_fresh
  one_joined key more s up up' = λ i. fresh_of (edits_joined key more.edits s.edits up.edits up'.edits i) (row_by key more.rows s.rows up.rows up'.rows (expiry_kept (key_expiry slots bindings key) (key_expiry new bindings key)) i)

  pub one_sorted : (key : RowKey) (more : Fresh) → AreSorted more → AreSorted (one_fresh slots bindings new key more)
  unfolding one_fresh
  one_sorted key more up = record { edits = edits_sorted key more.edits up.edits; rows = row_sorted_by key more.rows up.rows (expiry_kept (key_expiry slots bindings key) (key_expiry new bindings key)) }

  -- ---- All rows

  all_joined : (keys : List RowKey) (more s : Fresh) → AreSorted more → AreSorted s → joined (more_fresh slots bindings new keys more) s ≡ more_fresh slots bindings new keys (joined more s)
  unfolding more_fresh
  all_joined [] more s up up' = refl
  all_joined (key ∷ keys) more s up up' =
      all_joined keys (one_fresh slots bindings new key more) s (one_sorted key more up) up'
      ∙ ap (more_fresh slots bindings new keys) (one_joined key more s up up')

  none_joined : (s : Fresh) → joined (fresh_of [] []) s ≡ s
  unfolding joined
  none_joined s = refl

  -- what was planned by itself is planned
  pub planned_alone : (keys : List RowKey) (own s : Fresh) → own ≡ more_fresh slots bindings new keys (fresh_of [] []) → AreSorted s → joined own s ≡ more_fresh slots bindings new keys s
  planned_alone keys own s is up = ap (λ (m : Fresh). joined m s) is ∙ all_joined keys (fresh_of [] []) s (record { edits = tt; rows = tt }) up ∙ ap (more_fresh slots bindings new keys) (none_joined s)

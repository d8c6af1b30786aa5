-- The edit of an entry that has a key is the one that is asked for.
use Rattle.std.proofs.Common.{◌≡◌, ℕ, List, [], ◌∷◌, Option, Some, None, refl, sym, ap, ◌∙◌}
use Rattle.std.specs.Option.{option_map}
use Rattle.base_rows.specs.Sortable.{row_at}
use Rattle.mud_base.specs.declared.addr.Addr.{Addr}
use Rattle.mud_base.specs.declared.packet.Direction.{Direction}
use Rattle.acl_model.specs.declared.entry.Entry.{Entry}
use Rattle.acl_model.specs.FirstMatch.{entries_of}
use Rattle.acl_model.specs.Policies.{UrlPolicy}
use Rattle.base_rows.specs.declared.edit.Edit.{Edit}
use Rattle.acl_rows.specs.declared.row.Owner.{Owner}
use Rattle.acl_rows.specs.declared.row.Row.{Row}
use Rattle.acl_rows.specs.declared.row.RowKey.{RowKey}
use Rattle.acl_rows.specs.SortKeys.{row_sort_key, sort_key_at, named_sort_key}
use Rattle.acl_model.specs.declared.binding.Binding.{Binding}
use Rattle.acl_rows.specs.ByAddress.{index_beside}
use Rattle.acl_rows.specs.Rows.{Slots, row, held_by, entry_at, entry_expiry, expiry_at, rows_of}
use Rattle.acl_rows.proofs.Sound.{expiry_at-entry}
use Rattle.acl_rows.proofs.AtSortKeys.{row_at-rows_of}
use Rattle.acl_changes.specs.Touched.{row_key, key_expiry, changed_edits, with_edit, with_edits}
use Rattle.acl_changes.specs.Change.{ChangeState, after, more_edits, expiry_of_row}

-- ---- One edit

-- the edits with that of one more sort key
unfoldable pub one_edit : ChangeState → RowKey → List (Edit Row) → List (Edit Row)
one_edit c t edits = with_edit c.slots c.bindings c.slots (after c) t edits

expiry_made : (owner : Owner) (side : Direction) (a : Addr) (n : ℕ) (o : Option ℕ) → expiry_of_row (option_map (row owner side a n) o) ≡ o
unfolding expiry_of_row row
expiry_made owner side a n None = refl
expiry_made owner side a n (Some u) = refl

module _ (c : ChangeState) (kept : c.rows ≡ rows_of c.slots c.bindings) (key : RowKey) where
  old_expiry : expiry_of_row (row_at row_sort_key (named_sort_key key) c.rows) ≡ key_expiry c.slots c.bindings key
  unfolding named_sort_key key_expiry
  old_expiry =
      ap (λ (rows : List Row). expiry_of_row (row_at row_sort_key (sort_key_at key.owner key.side key.addr key.entry) rows)) kept
      ∙ ap expiry_of_row (row_at-rows_of c.slots c.bindings key.owner key.side key.addr key.entry)
      ∙ expiry_made key.owner key.side key.addr key.entry (expiry_at c.slots c.bindings key.owner key.side key.addr key.entry)

  -- the edit that the new expiry and the old row ask for
  pub one_edit_is : (until : Option ℕ) (edits : List (Edit Row)) → until ≡ key_expiry c.slots (after c) key
      → changed_edits key (index_beside key.owner key.side key.addr (named_sort_key key) c.rows) (expiry_of_row (row_at row_sort_key (named_sort_key key) c.rows)) until edits ≡ one_edit c key edits
  unfolding one_edit with_edit
  one_edit_is until edits is =
      (λ i. changed_edits key (index_beside key.owner key.side key.addr (named_sort_key key) (kept i)) (old_expiry i) (is i) edits)

  pub edit_is : (until : Option ℕ) (edits : List (Edit Row)) → until ≡ key_expiry c.slots (after c) key
      → changed_edits key (index_beside key.owner key.side key.addr (named_sort_key key) c.rows) (expiry_of_row (row_at row_sort_key (named_sort_key key) c.rows)) until edits ≡ more_edits c (key ∷ []) edits
  unfolding more_edits with_edits one_edit
  edit_is until edits is = one_edit_is until edits is

module _ (c : ChangeState) (kept : c.rows ≡ rows_of c.slots c.bindings) (owner : Owner) (side : Direction) (a : Addr) (n : ℕ) where
  pub entry_edit_is : (held : UrlPolicy) (entry : Entry) (until : Option ℕ) (edits : List (Edit Row)) → held_by c.slots owner ≡ Some held → entry_at n (entries_of side held.policy) ≡ Some entry → until ≡ entry_expiry (after c) held.url entry a
      → changed_edits (row_key owner side a n) (index_beside owner side a (named_sort_key (row_key owner side a n)) c.rows) (expiry_of_row (row_at row_sort_key (named_sort_key (row_key owner side a n)) c.rows)) until edits ≡ more_edits c (row_key owner side a n ∷ []) edits
  unfolding key_expiry
  entry_edit_is held entry until edits h e is = edit_is c kept (row_key owner side a n) until edits (is ∙ sym (expiry_at-entry c.slots (after c) owner side a n held entry h e))

-- ---- An edit that is asked for by another table

module _ (slots : Slots) (bindings : List Binding) (new : Slots) (rows : List Row) (kept : rows ≡ rows_of slots bindings) (key : RowKey) where
  pub was : expiry_of_row (row_at row_sort_key (named_sort_key key) rows) ≡ key_expiry slots bindings key
  unfolding named_sort_key key_expiry
  was =
      ap (λ (xs : List Row). expiry_of_row (row_at row_sort_key (sort_key_at key.owner key.side key.addr key.entry) xs)) kept
      ∙ ap expiry_of_row (row_at-rows_of slots bindings key.owner key.side key.addr key.entry)
      ∙ expiry_made key.owner key.side key.addr key.entry (expiry_at slots bindings key.owner key.side key.addr key.entry)

  pub asked_edit : (until : Option ℕ) (edits : List (Edit Row)) → until ≡ key_expiry new bindings key
      → changed_edits key (index_beside key.owner key.side key.addr (named_sort_key key) rows) (expiry_of_row (row_at row_sort_key (named_sort_key key) rows)) until edits ≡ with_edit slots bindings new bindings key edits
  unfolding with_edit
  asked_edit until edits is = (λ i. changed_edits key (index_beside key.owner key.side key.addr (named_sort_key key) (kept i)) (was i) (is i) edits)

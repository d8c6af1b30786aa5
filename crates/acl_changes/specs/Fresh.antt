-- The edits that the rows of a new policy lead to, and those of the rows that stay.
use Rattle.std.specs.Prelude.{◌≡◌, ℕ, ◌+◌, false, List, [], ◌∷◌, filter, flat_map, length, slice_get, is_some, Option, Some, None, if◌then◌else◌}
use Rattle.std.specs.List.{AllByRecursion, filter_map}
use Rattle.base_rows.specs.Sortable.{row_at, set_row, set_rows, SortKeysAscend}
use Rattle.mud_base.specs.declared.packet.Direction.{Direction}
use Rattle.mud_base.specs.declared.packet.Direction.TheVariants.{From, To}
use Rattle.acl_model.specs.declared.binding.Binding.{Binding}
use Rattle.acl_model.specs.declared.binding.MemberKey.{MemberKey}
use Rattle.acl_model.specs.declared.entry.Selector.{Selector}
use Rattle.acl_model.specs.declared.entry.Entry.{Entry}
use Rattle.acl_model.specs.Keys.{key_of, is_membered}
use Rattle.acl_model.specs.Changes.{bound_until}
use Rattle.acl_model.specs.FirstMatch.{entries_of}
use Rattle.acl_model.specs.Policies.{UrlPolicy}
use Rattle.base_rows.specs.declared.edit.Edit.{Edit}
use Rattle.base_rows.specs.Edits.{edit, edit_sort_key}
use Rattle.acl_rows.specs.declared.row.Row.{Row}
use Rattle.acl_rows.specs.declared.row.RowKey.{RowKey}
use Rattle.acl_rows.specs.SortKeys.{row_sort_key}
use Rattle.acl_rows.specs.ByAddress.{rows_of_peer, index_beside}
use Rattle.acl_rows.specs.Rows.{Slots, Holder, row, held_by, numbered, entry_at, member_keys}
use Rattle.acl_changes.specs.Touched.{key_expiry, with_edit}
use Rattle.acl_changes.specs.PolicyTouched.{entry_touches}

-- ---- New rows

-- edits that are planned, and of the rows that are asked for so far those that stood before
pub record Fresh : Type 0 where
  pub edits : List (Edit Row)
  pub rows : List Row

abbrev pub fresh_of : List (Edit Row) → List Row → Fresh
fresh_of edits rows = record { edits = edits; rows = rows }

-- the rows with that of a key, where there is an expiry
unfoldable pub row_with : RowKey → Option ℕ → List Row → List Row
row_with key None rows = rows
row_with key (Some u) rows = set_row row_sort_key (row key.owner key.side key.addr key.entry u) rows

-- the new expiry, where there was an expiry before
unfoldable pub expiry_kept : Option ℕ → Option ℕ → Option ℕ
expiry_kept None new = None
expiry_kept (Some old) new = new

unfoldable pub one_fresh : Slots → List Binding → Slots → RowKey → Fresh → Fresh
one_fresh slots bindings slots' key s = fresh_of (with_edit slots bindings slots' bindings key s.edits) (row_with key (expiry_kept (key_expiry slots bindings key) (key_expiry slots' bindings key)) s.rows)

unfoldable pub more_fresh : Slots → List Binding → Slots → List RowKey → Fresh → Fresh
more_fresh slots bindings slots' [] s = s
more_fresh slots bindings slots' (key ∷ keys) s = more_fresh slots bindings slots' keys (one_fresh slots bindings slots' key s)

-- edits and rows put among others
unfoldable pub joined : Fresh → Fresh → Fresh
joined more s = fresh_of (set_rows (edit_sort_key row_sort_key) more.edits s.edits) (set_rows row_sort_key more.rows s.rows)

-- what these keys ask for, whatever table it is that has the policy then
abbrev pub ArePlanned : Slots → List Binding → Holder → List RowKey → Fresh → Type 0
ArePlanned slots bindings h keys fresh = (new : Slots) → held_by new h.0 ≡ Some h.1 → fresh ≡ more_fresh slots bindings new keys (fresh_of [] [])

-- the sort keys of these entries, the first of which has this number
unfoldable pub entries_touches : List Binding → Holder → Direction → ℕ → List Entry → List RowKey
entries_touches bindings h side n entries = flat_map (entry_touches bindings h.0 h.1 side) (numbered n entries)

-- among all entries these stand one behind the other, the first of them with this number
abbrev pub StandFrom : ℕ → List Entry → List Entry → Type 0
StandFrom n entries all = (i : ℕ) (entry : Entry) → slice_get entries i ≡ Some entry → entry_at (n + i) all ≡ Some entry

-- both are in the order of their sort keys
pub record AreSorted (s : Fresh) : Type 0 where
  pub edits : SortKeysAscend (edit_sort_key row_sort_key) s.edits
  pub rows : SortKeysAscend row_sort_key s.rows

-- the first of a list
unfoldable pub first_of : {A : Type 0} → List A → Option A
first_of [] = None
first_of (x ∷ xs) = Some x

-- the others
unfoldable pub rest_of : {A : Type 0} → List A → List A
rest_of [] = []
rest_of (x ∷ xs) = xs

-- Behind the selector with the first key of an entry stand these, and each of these bindings is that of its address and the key.
pub record AreBoundFirst (bindings : List Binding) (url : List ℕ) (entry : Entry) (behind : List Selector) (bound : List Binding) : Type 0 where
  pub key : MemberKey
  pub keys : member_keys url entry ≡ key ∷ filter_map (key_of url) behind
  pub each : (i : ℕ) (b : Binding) → slice_get bound i ≡ Some b → bound_until bindings key b.addr ≡ Some b.until

-- how many entries have a member selector
unfoldable pub membered_count : List Entry → ℕ
membered_count entries = length (filter is_membered entries)

unfoldable pub policy_count : Option UrlPolicy → ℕ
policy_count None = 0
policy_count (Some held) = membered_count (entries_of From held.policy) + membered_count (entries_of To held.policy)

-- ---- Old rows

-- the rows are all those of one owner, side and address
abbrev pub AreOfPeer : List Row → List Row → Type 0
AreOfPeer own all = AllByRecursion (λ r. own ≡ rows_of_peer r.owner r.side r.addr all) own

-- the edit by which a row goes, which stands among these
abbrev pub gone_edit : List Row → Row → Edit Row
gone_edit all r = edit r false (index_beside r.owner r.side r.addr (row_sort_key r) all)

-- the edits by which those of some rows go whose sort keys aren't among the rows that stay; the first list has all rows that are kept
unfoldable pub left_edits : List Row → List Row → List Row → List (Edit Row) → List (Edit Row)
left_edits all new [] edits = edits
left_edits all new (r ∷ rs) edits = left_edits all new rs (if is_some (row_at row_sort_key (row_sort_key r) new) then edits else set_row (edit_sort_key row_sort_key) (gone_edit all r) edits)

-- Which sort keys a change of bindings touches, and the edits that follow.
use Rattle.std.specs.Prelude.{ℕ, ◌==◌, Bool, true, false, List, [], ◌∷◌, ◌++◌, flat_map, Option, Some, None, Result, unwrap_or, is_some, if◌then◌else◌}
use Rattle.std.specs.List.{list_any}
use Rattle.base_rows.specs.Sortable.{set_row}
use Rattle.mud_base.specs.declared.addr.Addr.{Addr}
use Rattle.mud_base.specs.declared.packet.Direction.{Direction}
use Rattle.mud_base.specs.declared.packet.Direction.TheVariants.{From, To}
use Rattle.acl_model.specs.declared.entry.Entry.{Entry}
use Rattle.acl_model.specs.declared.binding.MemberKey.{MemberKey}
use Rattle.acl_model.specs.declared.binding.Binding.{Binding}
use Rattle.acl_model.specs.Keys.{has_key}
use Rattle.acl_model.specs.FirstMatch.{entries_of}
use Rattle.base_rows.specs.declared.edit.Edit.{Edit}
use Rattle.base_rows.specs.Edits.{edit_sort_key}
use Rattle.acl_rows.specs.declared.row.Owner.{Owner}
use Rattle.acl_rows.specs.declared.row.Row.{Row}
use Rattle.acl_rows.specs.declared.row.RowKey.{RowKey}
use Rattle.acl_rows.specs.SortKeys.{row_sort_key, named_sort_key}
use Rattle.acl_rows.specs.ByAddress.{index_beside}
use Rattle.acl_rows.specs.Rows.{Slots, Holder, row, rows_of, numbered, holders_from, expiry_at}

-- ---- The sort keys that are touched

abbrev pub row_key : Owner → Direction → Addr → ℕ → RowKey
row_key owner side a n = record { owner = owner; side = side; addr = a; entry = n }

-- the sort key of an entry at an address, where the entry has the key
unfoldable pub entry_touch : MemberKey → Addr → Holder → Direction → ℕ × Entry → List RowKey
entry_touch key a h side e = if list_any (has_key h.1.url key) e.1.selectors then row_key h.0 side a e.0 ∷ [] else []

unfoldable pub side_touches : MemberKey → Addr → Holder → Direction → List RowKey
side_touches key a h side = flat_map (entry_touch key a h side) (numbered 1 (entries_of side h.1.policy))

unfoldable pub holder_touches : MemberKey → Addr → Holder → List RowKey
holder_touches key a h = side_touches key a h From ++ side_touches key a h To

-- those at the address of a binding, of each entry that has its key
unfoldable pub binding_touches : Slots → Binding → List RowKey
binding_touches slots b = flat_map (holder_touches b.key b.addr) (holders_from 0 slots)

unfoldable pub touches : Slots → List Binding → List RowKey
touches slots changed = flat_map (binding_touches slots) changed

-- ---- The edits

unfoldable pub same_expiry : Option ℕ → Option ℕ → Bool
same_expiry None None = true
same_expiry (Some m) (Some n) = m == n
same_expiry None (Some n) = false
same_expiry (Some m) None = false

-- the edit of a sort key by which its row has the new expiry; where there is none, the row with the old one goes
unfoldable pub edit_of : RowKey → Result ℕ ℕ → Option ℕ → Option ℕ → Edit Row
edit_of key found old new = record { row = row key.owner key.side key.addr key.entry (unwrap_or new (unwrap_or old 0)); comes = is_some new; found = found }

-- the edits with that of a sort key, where its expiry changes
unfoldable pub changed_edits : RowKey → Result ℕ ℕ → Option ℕ → Option ℕ → List (Edit Row) → List (Edit Row)
changed_edits key found old new edits = if same_expiry new old then edits else set_row (edit_sort_key row_sort_key) (edit_of key found old new) edits

unfoldable pub key_expiry : Slots → List Binding → RowKey → Option ℕ
key_expiry slots bindings key = expiry_at slots bindings key.owner key.side key.addr key.entry

unfoldable pub with_edit : Slots → List Binding → Slots → List Binding → RowKey → List (Edit Row) → List (Edit Row)
with_edit slots bindings slots' bindings' key edits = changed_edits key (index_beside key.owner key.side key.addr (named_sort_key key) (rows_of slots bindings)) (key_expiry slots bindings key) (key_expiry slots' bindings' key) edits

-- the edits of these sort keys, one after the other
unfoldable pub with_edits : Slots → List Binding → Slots → List Binding → List RowKey → List (Edit Row) → List (Edit Row)
with_edits slots bindings slots' bindings' [] edits = edits
with_edits slots bindings slots' bindings' (key ∷ keys) edits = with_edits slots bindings slots' bindings' keys (with_edit slots bindings slots' bindings' key edits)

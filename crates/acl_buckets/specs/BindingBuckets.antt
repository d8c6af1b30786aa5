-- Bindings in buckets: those of one key stand by themselves, and each edit has an index among these.
use Rattle.std.specs.Prelude.{◌≡◌, ℕ, ◌+◌, ◌≤◌, nat_lt, Bool, List, [], ◌∷◌, length, Result, if◌then◌else◌}
use Rattle.std.specs.List.{AllByRecursion, list_any}
use Rattle.base_rows.specs.Sortable.{same_sort_key, index_in, rows_under}
use Rattle.base_rows.specs.declared.edit.Edit.{Edit}
use Rattle.base_rows.specs.Edits.{edit_sort_key}
use Rattle.acl_model.specs.declared.binding.MemberKey.{MemberKey}
use Rattle.acl_model.specs.declared.binding.Binding.{Binding}
use Rattle.acl_model.specs.SortKeys.{member_sort_key, binding_sort_key}
use Rattle.acl_rows.specs.ByAddress.{IsCleared}

-- how many more bindings of a key there is room for
pub record KeyRoom : Type 0 where
  pub key : MemberKey
  pub room : ℕ

-- all bindings in the order of their sort keys, for each key with a bucket how many more there is room for, and at how
-- many buckets the empty ones go
pub record KeptBindings : Type 0 where
  pub rows : List Binding
  pub room : List KeyRoom
  pub limit : ℕ

-- a key without a bucket has no room
unfoldable pub room_of_key : MemberKey → List KeyRoom → ℕ
room_of_key key [] = 0
room_of_key key (r ∷ rs) = if same_sort_key (member_sort_key r.key) (member_sort_key key) then r.room else room_of_key key rs

-- the bindings of one key
unfoldable pub bindings_of_key : MemberKey → List Binding → List Binding
bindings_of_key key rows = rows_under binding_sort_key (member_sort_key key) rows

-- of the key there is a binding
unfoldable pub has_binding : List Binding → KeyRoom → Bool
has_binding rows room = nat_lt 0 (length (bindings_of_key room.key rows))

-- the key has a bucket
unfoldable pub has_key : MemberKey → List KeyRoom → Bool
has_key key room = list_any (λ r. same_sort_key (member_sort_key r.key) (member_sort_key key)) room

-- the edits of bindings of one key
unfoldable pub edits_of_key : MemberKey → List (Edit Binding) → List (Edit Binding)
edits_of_key key edits = rows_under (edit_sort_key binding_sort_key) (member_sort_key key) edits

-- Where there are as many buckets as the limit, the empty ones go. Then at most as many come as there are edits, and only
-- those of keys that have edits.
pub record AreKeysCleared (edits : List (Edit Binding)) (old new : KeptBindings) : Type 0 where
  pub left : List KeyRoom
  pub cleared : IsCleared (has_binding old.rows) old.room left old.limit new.limit
  pub most : length new.room ≤ length left + length edits
  pub others : (key : MemberKey) → edits_of_key key edits ≡ [] → has_key key new.room ≡ has_key key left

-- the index of a binding's sort key among the bindings of its key, or else the index at which it belongs there
unfoldable pub index_by_key : Binding → List Binding → Result ℕ ℕ
index_by_key b rows = index_in binding_sort_key (binding_sort_key b) (bindings_of_key b.key rows)

-- each edit has the index of its sort key among the bindings of its key
abbrev pub AreFoundByKey : List Binding → List (Edit Binding) → Type 0
AreFoundByKey rows edits = AllByRecursion (λ edit. edit.found ≡ index_by_key edit.row rows) edits

-- for each key there is room for a binding by each of its edits
pub record HasRoomByKey (edits : List (Edit Binding)) (room : List KeyRoom) : Type 0 where
  pub each : (key : MemberKey) → length (edits_of_key key edits) ≤ room_of_key key room

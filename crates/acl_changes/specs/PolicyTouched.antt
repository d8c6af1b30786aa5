-- Which sort keys a policy that comes, goes or is replaced touches.
use Rattle.std.specs.Prelude.{◌≡◌, ◌≢◌, ℕ, Bool, List, [], ◌∷◌, ◌++◌, map, filter, flat_map, is_none, Option, Some, None}
use Rattle.base_rows.specs.Sortable.{rows_under}
use Rattle.mud_base.specs.declared.packet.Direction.{Direction}
use Rattle.mud_base.specs.declared.packet.Direction.TheVariants.{From, To}
use Rattle.acl_model.specs.declared.entry.Entry.{Entry}
use Rattle.acl_model.specs.declared.binding.MemberKey.{MemberKey}
use Rattle.acl_model.specs.declared.binding.Binding.{Binding}
use Rattle.acl_model.specs.FirstMatch.{entries_of}
use Rattle.acl_model.specs.Policies.{UrlPolicy}
use Rattle.acl_rows.specs.declared.row.Owner.{Owner}
use Rattle.acl_rows.specs.declared.row.Owner.TheVariants.{Url}
use Rattle.acl_rows.specs.declared.row.Row.{Row}
use Rattle.acl_rows.specs.declared.row.RowKey.{RowKey}
use Rattle.acl_rows.specs.SortKeys.{owner_sort_key, row_sort_key}
use Rattle.acl_rows.specs.Rows.{Slots, member_keys, numbered, held_by}
use Rattle.acl_buckets.specs.BindingBuckets.{bindings_of_key}
use Rattle.acl_changes.specs.Patch.{expiry_for}
use Rattle.acl_changes.specs.Touched.{row_key}

-- ---- New rows: an entry at the address of each binding of its first key

unfoldable pub bound_key : Owner → Direction → ℕ → Binding → RowKey
bound_key owner side n b = row_key owner side b.addr n

unfoldable pub first_key_touches : List Binding → Owner → Direction → ℕ → List MemberKey → List RowKey
first_key_touches bindings owner side n [] = []
first_key_touches bindings owner side n (key ∷ keys) = map (bound_key owner side n) (bindings_of_key key bindings)

unfoldable pub entry_touches : List Binding → Owner → UrlPolicy → Direction → ℕ × Entry → List RowKey
entry_touches bindings owner held side e = first_key_touches bindings owner side e.0 (member_keys held.url e.1)

unfoldable pub side_policy_touches : List Binding → Owner → UrlPolicy → Direction → List RowKey
side_policy_touches bindings owner held side = flat_map (entry_touches bindings owner held side) (numbered 1 (entries_of side held.policy))

unfoldable pub new_touches : List Binding → Owner → Option UrlPolicy → List RowKey
new_touches bindings owner None = []
new_touches bindings owner (Some held) = side_policy_touches bindings owner held From ++ side_policy_touches bindings owner held To

-- ---- Old rows: those of the owner that aren't asked for any more

-- the rows of an owner
unfoldable pub owner_rows : Owner → List Row → List Row
owner_rows owner rows = rows_under row_sort_key (owner_sort_key owner) rows

unfoldable pub key_of_row : Row → RowKey
key_of_row r = row_key r.owner r.side r.addr r.entry

unfoldable pub is_left : Slots → List Binding → Row → Bool
is_left slots bindings r = is_none (expiry_for slots bindings r)

unfoldable pub left_touches : Slots → List Binding → List Row → Owner → List RowKey
left_touches slots bindings rows owner = map key_of_row (filter (is_left slots bindings) (owner_rows owner rows))

unfoldable pub policy_touches : Slots → List Binding → List Row → Owner → Option UrlPolicy → List RowKey
policy_touches slots bindings rows owner new = new_touches bindings owner new ++ left_touches slots bindings rows owner

-- the table has this in the slot, and else what it had
pub record IsSlotChange (slots slots' : Slots) (i : ℕ) (new : Option UrlPolicy) : Type 0 where
  pub here : held_by slots' (Url i) ≡ new
  pub others : (j : ℕ) → j ≢ i → held_by slots' (Url j) ≡ held_by slots (Url j)

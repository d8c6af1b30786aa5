-- A change of bindings, over what is kept.
use Rattle.std.specs.Prelude.{◌≡◌, ℕ, List, [], min, Option, Some, None}
use Rattle.std.specs.Option.{option_map}
use Rattle.base_rows.specs.Sortable.{row_at}
use Rattle.mud_base.specs.declared.addr.Addr.{Addr}
use Rattle.acl_model.specs.declared.binding.MemberKey.{MemberKey}
use Rattle.acl_model.specs.declared.binding.Binding.{Binding}
use Rattle.acl_model.specs.Policies.{UrlPolicy}
use Rattle.acl_model.specs.SortKeys.{binding_sort_key}
use Rattle.acl_model.specs.Changes.{until_of, bound_until, replaced}
use Rattle.base_rows.specs.declared.edit.Edit.{Edit}
use Rattle.base_rows.specs.Edits.{edited}
use Rattle.acl_rows.specs.declared.row.Owner.TheVariants.{Url}
use Rattle.acl_rows.specs.declared.row.Row.{Row}
use Rattle.acl_rows.specs.declared.row.RowKey.{RowKey}
use Rattle.acl_rows.specs.Rows.{Slots, rows_of}
use Rattle.acl_changes.specs.Touched.{holder_touches, with_edits}

-- what is kept, the bindings that go and come, and the edits by which they do
pub record ChangeState : Type 0 where
  pub slots : Slots
  pub bindings : List Binding
  pub rows : List Row
  pub gone : List Binding
  pub come : List Binding
  pub edits : List (Edit Binding)

abbrev pub change_state : Slots → List Binding → List Row → List Binding → List Binding → List (Edit Binding) → ChangeState
change_state slots bindings rows gone come edits = record { slots = slots; bindings = bindings; rows = rows; gone = gone; come = come; edits = edits }

-- the rows that are kept are those of the policies and bindings, and with these edits the bindings have gone and come
pub record IsOver (slots : Slots) (bindings : List Binding) (rows : List Row) (gone come : List Binding) (edits : List (Edit Binding)) : Type 0 where
  pub kept : rows ≡ rows_of slots bindings
  pub made : edited binding_sort_key edits bindings ≡ replaced gone come bindings

-- the bindings after the change
unfoldable pub after : ChangeState → List Binding
after c = replaced c.gone c.come c.bindings

-- the edits with those of more sort keys
unfoldable pub more_edits : ChangeState → List RowKey → List (Edit Row) → List (Edit Row)
more_edits c ts edits = with_edits c.slots c.bindings c.slots (after c) ts edits

-- the expiry of the binding of a sort key
abbrev pub expiry_in : List ℕ → List Binding → Option ℕ
expiry_in p bindings = option_map until_of (row_at binding_sort_key p bindings)

unfoldable pub expiry_of_row : Option Row → Option ℕ
expiry_of_row r = option_map (λ x. x.until) r

-- the lesser of an expiry and that of the binding of a selector's key, where it has one; a selector with no key asks
-- for none
unfoldable pub met_expiry : List Binding → Addr → ℕ → Option MemberKey → Option ℕ
met_expiry bindings a m None = Some m
met_expiry bindings a m (Some key) = option_map (min m) (bound_until bindings key a)

-- the sort keys that a slot's policy has at an address
unfoldable pub slot_touches : MemberKey → Addr → ℕ → Option UrlPolicy → List RowKey
slot_touches key a n None = []
slot_touches key a n (Some held) = holder_touches key a (Url n, held)

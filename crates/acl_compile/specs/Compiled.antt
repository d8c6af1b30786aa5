-- What is compiled: the policies in their slots, the bindings, and the rows that follow from them.
use Rattle.std.specs.Prelude.{◌≡◌, ℕ, ◌≤◌, List, length, Some}
use Rattle.base_rows.specs.Sortable.{SortKeysAscend}
use Rattle.acl_model.specs.declared.entry.Policy.{Policy}
use Rattle.acl_model.specs.declared.binding.Binding.{Binding}
use Rattle.acl_model.specs.SortKeys.{binding_sort_key}
use Rattle.acl_rows.specs.declared.row.Row.{Row}
use Rattle.acl_model.specs.Defaults.{default_policy}
use Rattle.acl_model.specs.Policies.{UrlPolicy}
use Rattle.acl_rows.specs.declared.row.Owner.TheVariants.{Url}
use Rattle.acl_rows.specs.ByAddress.{AddrRoom}
use Rattle.acl_rows.specs.Rows.{Slots, held_by, rows_of}
use Rattle.acl_buckets.specs.RowBuckets.{Buckets}
use Rattle.acl_buckets.specs.BindingBuckets.{KeyRoom, KeptBindings}

-- The policies in their slots, the bindings and the rows; and how many more policies there is room for, how many more
-- slots of URLs, how many more bindings in the bucket of each key, and how many more rows of each address in the
-- bucket of each owner and side.
pub record CompiledState : Type 0 where
  pub slots : Slots
  pub bindings : List Binding
  pub rows : List Row
  pub slot_room : ℕ
  pub url_slot_room : ℕ
  pub binding_room : List KeyRoom
  pub row_room : List (List AddrRoom)

-- the bindings stand in their order, and the rows are those of the policies and bindings
pub record HasItsRows (c : CompiledState) : Type 0 where
  pub ascend : SortKeysAscend binding_sort_key c.bindings
  pub rows : c.rows ≡ rows_of c.slots c.bindings

-- the policies of no two slots are of one URL
abbrev pub UrlsApart : Slots → Type 0
UrlsApart slots = (i j : ℕ) (h g : UrlPolicy) → held_by slots (Url i) ≡ Some h → held_by slots (Url j) ≡ Some g → h.url ≡ g.url → i ≡ j

-- the rows are those of the policies and bindings, there are no more slots than 128, and the defaults are the standard's
pub record IsSound (slots : Slots) (bindings : List Binding) (rows : List Row) (defaults : Policy) : Type 0 where
  pub rows_are : rows ≡ rows_of slots bindings
  pub few : length slots ≤ 128
  pub apart : UrlsApart slots
  pub defaults_are : defaults ≡ default_policy

abbrev pub compiled_state : Slots → KeptBindings → Buckets → ℕ → ℕ → CompiledState
compiled_state slots bindings rows slot_room url_slot_room = record { slots = slots; bindings = bindings.rows; rows = rows.rows; slot_room = slot_room; url_slot_room = url_slot_room; binding_room = bindings.room; row_room = rows.room }

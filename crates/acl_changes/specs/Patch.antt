-- Rows that are edited where they change, in place of all rows made anew.
use Rattle.std.specs.Prelude.{◌≡◌, ◌≢◌, ℕ, ◌+◌, ◌&&◌, ◌==◌, Bool, not, List, length, filter, Option, Some, None, if◌then◌else◌}
use Rattle.std.specs.List.{list_any, AllByRecursion}
use Rattle.base_rows.specs.Sortable.{same_sort_key, row_at, SortKeysAscend}
use Rattle.mud_base.specs.declared.addr.Addr.{Addr}
use Rattle.mud_base.specs.declared.packet.Direction.{Direction}
use Rattle.acl_model.specs.declared.binding.Binding.{Binding}
use Rattle.base_rows.specs.declared.edit.Edit.{Edit}
use Rattle.base_rows.specs.Edits.{edit_sort_key}
use Rattle.acl_buckets.specs.RowBuckets.{AreFoundBeside}
use Rattle.acl_rows.specs.declared.row.Owner.{Owner}
use Rattle.acl_rows.specs.declared.row.Row.{Row}
use Rattle.acl_rows.specs.SortKeys.{row_sort_key, sort_key_at}
use Rattle.acl_rows.specs.Rows.{Slots, rows_of, expiry_at}

-- ---- Patches

-- the expiry of the row that stands at the sort key of an edit afterwards
unfoldable pub edit_expiry : Edit Row → Option ℕ
edit_expiry e = if e.comes then Some e.row.until else None

-- the expiry that is asked at the sort key of a row
unfoldable pub expiry_for : Slots → List Binding → Row → Option ℕ
expiry_for slots bindings r = expiry_at slots bindings r.owner r.side r.addr r.entry

-- The edits say of each sort key at which the expiries before and after a change differ what is asked there afterwards,
-- and of no other sort key; and each has the index that its sort key has among the rows of its owner, side and address
-- before.
pub record IsPatch (slots : Slots) (bindings : List Binding) (slots' : Slots) (bindings' : List Binding) (edits : List (Edit Row)) : Type 0 where
  pub ascend : SortKeysAscend (edit_sort_key row_sort_key) edits
  pub each : AllByRecursion (λ e. edit_expiry e ≡ expiry_for slots' bindings' e.row) edits
  pub change : AllByRecursion (λ e. edit_expiry e ≢ expiry_for slots bindings e.row) edits
  pub rest : (owner : Owner) (side : Direction) (a : Addr) (n : ℕ) → row_at (edit_sort_key row_sort_key) (sort_key_at owner side a n) edits ≡ None → expiry_at slots' bindings' owner side a n ≡ expiry_at slots bindings owner side a n
  pub found : AreFoundBeside (rows_of slots bindings) edits

-- ---- How many rows differ

-- a row of the same sort key and expiry
unfoldable pub same_row : Row → Row → Bool
same_row r x = same_sort_key (row_sort_key x) (row_sort_key r) && x.until == r.until

unfoldable pub is_missing : List Row → Row → Bool
is_missing rows r = not (list_any (same_row r) rows)

-- how many rows are in one of the lists and not in both
unfoldable pub rows_apart : List Row → List Row → ℕ
rows_apart old new = length (filter (is_missing new) old) + length (filter (is_missing old) new)

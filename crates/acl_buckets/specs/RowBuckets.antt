-- Rows in buckets: those of one owner and side stand by themselves, those of each address there too, and each edit has
-- an index among the rows of its owner, side and address.
use Rattle.std.specs.Prelude.{◌≡◌, ℕ, ◌+◌, ◌*◌, ◌≤◌, List, [], length, slice_index_or}
use Rattle.std.specs.List.{AllByRecursion}
use Rattle.base_rows.specs.Sortable.{rows_under}
use Rattle.mud_base.specs.declared.addr.Addr.{Addr}
use Rattle.mud_base.specs.declared.packet.Direction.{Direction}
use Rattle.base_rows.specs.declared.edit.Edit.{Edit}
use Rattle.base_rows.specs.Edits.{edit_sort_key}
use Rattle.acl_rows.specs.declared.row.Owner.{Owner}
use Rattle.acl_rows.specs.declared.row.Row.{Row}
use Rattle.mud_base.specs.Directions.{side_number}
use Rattle.acl_rows.specs.SortKeys.{owner_class, owner_number, peer_sort_key, row_sort_key}
use Rattle.acl_rows.specs.View.{rows_of_side}
use Rattle.acl_rows.specs.ByAddress.{AddrRoom, room_at, index_beside, IsCleared, has_row}

-- The number of the bucket of an owner and side. The buckets are numbered in the order of the sort keys of the rows in
-- them.
unfoldable pub bucket_number : Owner → Direction → ℕ
bucket_number owner side = 2 * (owner_class owner + owner_number owner) + side_number side

-- all rows in the order of their sort keys, and of each bucket how many more there is room for at each address that has
-- rows or had some, and at how many such addresses those without rows go
pub record Buckets : Type 0 where
  pub rows : List Row
  pub room : List (List AddrRoom)
  pub limits : List ℕ

-- the addresses in the bucket of an owner and side, and its limit
unfoldable pub addresses_of : Owner → Direction → Buckets → List AddrRoom
addresses_of owner side b = slice_index_or b.room (bucket_number owner side) []

unfoldable pub limit_of : Owner → Direction → Buckets → ℕ
limit_of owner side b = slice_index_or b.limits (bucket_number owner side) 16

-- Where the bucket of an edit has as many addresses as its limit, those without rows go, and then at most as many come as
-- there are edits.
pub record AreForgotten (edits : List (Edit Row)) (old new : Buckets) (edit : Edit Row) : Type 0 where
  pub left : List AddrRoom
  pub cleared : let of = limit_of edit.row.owner edit.row.side in
      IsCleared (has_row (rows_of_side edit.row.owner edit.row.side old.rows)) (addresses_of edit.row.owner edit.row.side old) left (of old) (of new)
  pub most : length (addresses_of edit.row.owner edit.row.side new) ≤ length left + length edits

-- how many more rows of an owner, side and address there is room for
unfoldable pub room_on : List (List AddrRoom) → Owner → Direction → Addr → ℕ
room_on room owner side a = room_at a (slice_index_or room (bucket_number owner side) [])

-- each edit has the index of its sort key among the rows of its owner, side and address
abbrev pub AreFoundBeside : List Row → List (Edit Row) → Type 0
AreFoundBeside rows edits = AllByRecursion (λ edit. edit.found ≡ index_beside edit.row.owner edit.row.side edit.row.addr (row_sort_key edit.row) rows) edits

-- the edits of rows of one owner, side and address
unfoldable pub edits_of_peer : Owner → Direction → Addr → List (Edit Row) → List (Edit Row)
edits_of_peer owner side a edits = rows_under (edit_sort_key row_sort_key) (peer_sort_key owner side a) edits

-- for each owner, side and address there is room for a row by each of its edits
pub record HasRoom (edits : List (Edit Row)) (room : List (List AddrRoom)) : Type 0 where
  pub each : (owner : Owner) (side : Direction) (a : Addr) → length (edits_of_peer owner side a edits) ≤ room_on room owner side a

-- The buckets, one after the other. Their numbers rise with the sort keys of the rows that stand in them.
use Rattle.std.specs.Prelude.{◌≡◌, ℕ, ◌+◌, ◌<◌, ◌≤◌, List, [], ◌∷◌, ◌++◌, length, slice_index_or}
use Rattle.std.specs.List.{AllByRecursion}
use Rattle.base_rows.specs.Sortable.{SortKeysAscend}
use Rattle.mud_base.specs.declared.addr.Addr.{Addr}
use Rattle.mud_base.specs.declared.packet.Direction.{Direction}
use Rattle.mud_base.specs.declared.packet.Direction.TheVariants.{From}
use Rattle.base_rows.specs.declared.edit.Edit.{Edit}
use Rattle.base_rows.specs.Edits.{edited}
use Rattle.acl_rows.specs.declared.row.Owner.{Owner}
use Rattle.acl_rows.specs.declared.row.Owner.TheVariants.{Default}
use Rattle.acl_rows.specs.declared.row.Row.{Row}
use Rattle.acl_rows.specs.SortKeys.{row_sort_key}
use Rattle.acl_rows.specs.ByAddress.{AddrRoom, SideRows, room_at, AreAddressesCleared}
use Rattle.acl_buckets.specs.RowBuckets.{Buckets, bucket_number, edits_of_peer, AreFoundBeside, HasRoom}

-- ---- Buckets

unfoldable pub row_number : Row → ℕ
row_number r = bucket_number r.owner r.side

abbrev pub Parts : Type 0
Parts = List SideRows

-- where there is no bucket, there are no rows, and there is no room
abbrev pub nothing : SideRows
nothing = record { owner = Default; side = From; rows = []; room = []; limit = 16 }

unfoldable pub part_at : Parts → ℕ → SideRows
part_at parts k = slice_index_or parts k nothing

-- all rows
unfoldable pub joined : Parts → List Row
joined [] = []
joined (s ∷ ss) = s.rows ++ joined ss

-- how many more rows there is room for in each bucket at each address
unfoldable pub room_in : Parts → List (List AddrRoom)
room_in [] = []
room_in (s ∷ ss) = s.room ∷ room_in ss

-- their limits of addresses
unfoldable pub limits_in : Parts → List ℕ
limits_in [] = []
limits_in (s ∷ ss) = s.limit ∷ limits_in ss

-- the same as contracts outside see it
abbrev pub seen : Parts → Buckets
seen parts = record { rows = joined parts; room = room_in parts; limits = limits_in parts }

-- each bucket is of the owner and side of its number, in it stand only rows of these, and all rows are in their order
pub record AreSorted (parts : Parts) : Type 0 where
  pub own : (k : ℕ) → k < length parts → bucket_number (part_at parts k).owner (part_at parts k).side ≡ k
  pub each : (k : ℕ) → AllByRecursion (λ r. row_number r ≡ k) (part_at parts k).rows
  pub ascend : SortKeysAscend row_sort_key (joined parts)

-- the same, and there are no rows where there is no bucket
pub record AreBucketed (parts : Parts) (none : List Row) : Type 0 where
  pub sorted : AreSorted parts
  pub none_is : none ≡ []

-- ---- Changes

-- all rows stay; there may be more buckets, and another room
pub record AreKept (old new : Parts) : Type 0 where
  pub sorted : AreSorted new
  pub rows : joined new ≡ joined old
  pub len : length old ≤ length new

-- in the bucket of the edit, the addresses without rows go where there are many
abbrev pub IsClearedAt : Parts → Parts → Edit Row → Type 0
IsClearedAt old new edit = AreAddressesCleared (part_at old (row_number edit.row)) (part_at new (row_number edit.row))

-- in each bucket the addresses and their limit stay
abbrev pub HaveSameRoom : Parts → Parts → Type 0
HaveSameRoom old new = (k : ℕ) → ((part_at new k).room ≡ (part_at old k).room) × ((part_at new k).limit ≡ (part_at old k).limit)

-- in each bucket the limit stays, and at most so many addresses come
abbrev pub TakeAtMost : ℕ → Parts → Parts → Type 0
TakeAtMost n old new = (k : ℕ) → (length (part_at new k).room ≤ length (part_at old k).room + n) × ((part_at new k).limit ≡ (part_at old k).limit)

-- all rows stay, and there may be more room
pub record AreRoomier (old new : Parts) : Type 0 where
  pub kept : AreKept old new
  pub room : (k : ℕ) (a : Addr) → room_at a (part_at old k).room ≤ room_at a (part_at new k).room

-- ---- Room

-- in the bucket of an owner and side there is room at an address for a row by each of its edits
abbrev pub HasRoomFor : Owner → Direction → Addr → List (Edit Row) → Parts → Type 0
HasRoomFor owner side a edits parts = length (edits_of_peer owner side a edits) ≤ room_at a (part_at parts (bucket_number owner side)).room

-- each of the edits has a bucket, where there are so many
abbrev pub HaveBuckets : List (Edit Row) → ℕ → Type 0
HaveBuckets edits count = AllByRecursion (λ edit. row_number edit.row < count) edits

-- ---- Edits that are made

-- of some edits the last ones are made: those that are left have room and the indices of their sort keys, and once they are made too, all are
pub record AreLeft (edits left : List (Edit Row)) (old new : Parts) : Type 0 where
  pub sorted : AreSorted new
  pub room : HasRoom left (room_in new)
  pub found : AreFoundBeside (joined new) left
  pub made : edited row_sort_key left (joined new) ≡ edited row_sort_key edits (joined old)

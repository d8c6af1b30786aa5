-- The buckets, one after the other. What stands here is used by contracts inside the crate alone.
use Rattle.std.specs.Prelude.{◌≡◌, ℕ, ◌+◌, ◌≤◌, nat_lt, Bool, false, List, [], ◌∷◌, ◌++◌, length, Option, Some, None}
use Rattle.std.specs.List.{AllByRecursion, list_any}
use Rattle.base_rows.specs.Sortable.{same_sort_key, SortKeysAscend, RowsAndRoom, row_at, index_in, set_row}
use Rattle.base_rows.specs.declared.edit.Edit.{Edit}
use Rattle.base_rows.specs.Edits.{edit_made}
use Rattle.acl_model.specs.declared.binding.Binding.{Binding}
use Rattle.acl_model.specs.SortKeys.{member_sort_key, binding_sort_key}
use Rattle.acl_buckets.specs.declared.binding_parts.Bucket.{Bucket}
use Rattle.acl_buckets.specs.BindingBuckets.{KeyRoom}

-- ---- Buckets

-- a bucket stands at the sort key of its key
unfoldable pub bucket_sort_key : Bucket → List ℕ
bucket_sort_key s = member_sort_key s.key

-- there is a binding in the bucket
abbrev pub has_rows : Bucket → Bool
has_rows s = nat_lt 0 (length s.bindings.rows)

-- where there is no bucket, there are no bindings, and there is no room
abbrev pub nothing : RowsAndRoom Binding
nothing = record { rows = []; room = 0 }

abbrev pub part_of : Option Bucket → RowsAndRoom Binding
part_of None = nothing
part_of (Some s) = s.bindings

-- what stands in the bucket of a sort key
unfoldable pub part_at : List ℕ → List Bucket → RowsAndRoom Binding
part_at sort_key buckets = part_of (row_at bucket_sort_key sort_key buckets)

-- there is a bucket at the sort key
unfoldable pub has_bucket : List ℕ → List Bucket → Bool
has_bucket sort_key buckets = list_any (λ s. same_sort_key (bucket_sort_key s) sort_key) buckets

-- all bindings
unfoldable pub joined : List Bucket → List Binding
joined [] = []
joined (s ∷ ss) = s.bindings.rows ++ joined ss

abbrev pub key_room : Bucket → KeyRoom
key_room s = record { key = s.key; room = s.bindings.room }

-- how many more bindings there is room for in each bucket
unfoldable pub room_in : List Bucket → List KeyRoom
room_in [] = []
room_in (s ∷ ss) = key_room s ∷ room_in ss

-- in the bucket stand only bindings of its key, in their order
pub record IsOwn (s : Bucket) : Type 0 where
  pub keys : AllByRecursion (λ b. member_sort_key b.key ≡ bucket_sort_key s) s.bindings.rows
  pub ascend : SortKeysAscend binding_sort_key s.bindings.rows

-- the buckets stand in the order of their keys, each key once
pub record AreBucketed (buckets : List Bucket) : Type 0 where
  pub ascend : SortKeysAscend bucket_sort_key buckets
  pub each : AllByRecursion IsOwn buckets

-- the same, and there are no rows where there is no bucket
pub record AreKept (buckets : List Bucket) (none : List Binding) : Type 0 where
  pub bucketed : AreBucketed buckets
  pub none_is : none ≡ []

-- ---- Changes

-- the bindings stay, and there may be more room
pub record AreRoomier (old new : List Bucket) : Type 0 where
  pub bucketed : AreBucketed new
  pub rows : joined new ≡ joined old
  pub room : (sort_key : List ℕ) → (part_at sort_key old).room ≤ (part_at sort_key new).room

-- at no other sort key than this a bucket comes or goes
abbrev pub HaveOthers : List ℕ → List Bucket → List Bucket → Type 0
HaveOthers own old new = (sort_key : List ℕ) → same_sort_key own sort_key ≡ false → has_bucket sort_key new ≡ has_bucket sort_key old

-- each edit has the index that its sort key has in the bucket of its key
abbrev pub AreFoundIn : List Bucket → List (Edit Binding) → Type 0
AreFoundIn buckets edits = AllByRecursion (λ edit. edit.found ≡ index_in binding_sort_key (binding_sort_key edit.row) (part_at (member_sort_key edit.row.key) buckets).rows) edits

-- in the bucket of its key the edit is made; the other buckets stay
pub record IsEdited (edit : Edit Binding) (old new : List Bucket) : Type 0 where
  pub part : Bucket
  pub sort_key : bucket_sort_key part ≡ member_sort_key edit.row.key
  pub own : IsOwn part
  pub set : new ≡ set_row bucket_sort_key part old
  pub rows : part.bindings.rows ≡ edit_made binding_sort_key edit (part_at (member_sort_key edit.row.key) old).rows
  pub room : (part_at (member_sort_key edit.row.key) old).room ≤ part.bindings.room + 1

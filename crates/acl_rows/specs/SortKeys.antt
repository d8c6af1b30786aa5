-- The sort keys in whose order rows are kept: by the owner, the defaults first, then the side, the peer's address and the
-- number of the entry.
use Rattle.std.specs.Prelude.{ℕ, List, [], ◌∷◌, ◌++◌}
use Rattle.mud_base.specs.declared.addr.Addr.{Addr}
use Rattle.mud_base.specs.declared.packet.Direction.{Direction}
use Rattle.mud_base.specs.Directions.{side_number}
use Rattle.base_rows.specs.Addresses.{addr_sort_key}
use Rattle.acl_rows.specs.declared.row.Owner.{Owner}
use Rattle.acl_rows.specs.declared.row.Owner.TheVariants.{Url, Default}
use Rattle.acl_rows.specs.declared.row.Row.{Row}
use Rattle.acl_rows.specs.declared.row.RowKey.{RowKey}

unfoldable pub owner_class : Owner → ℕ
owner_class Default = 0
owner_class (Url n) = 1

unfoldable pub owner_number : Owner → ℕ
owner_number (Url n) = n
owner_number Default = 0

-- the beginning of the sort keys of one owner, of one side of it, and of one address there
unfoldable pub owner_sort_key : Owner → List ℕ
owner_sort_key owner = owner_class owner ∷ (owner_number owner ∷ [])

unfoldable pub side_sort_key : Owner → Direction → List ℕ
side_sort_key owner side = owner_sort_key owner ++ side_number side ∷ []

unfoldable pub peer_sort_key : Owner → Direction → Addr → List ℕ
peer_sort_key owner side a = side_sort_key owner side ++ addr_sort_key a

-- the sort key of the row of one entry there
unfoldable pub sort_key_at : Owner → Direction → Addr → ℕ → List ℕ
sort_key_at owner side a n = peer_sort_key owner side a ++ n ∷ []

unfoldable pub row_sort_key : Row → List ℕ
row_sort_key row = sort_key_at row.owner row.side row.addr row.entry

-- the sort key that a key names
unfoldable pub named_sort_key : RowKey → List ℕ
named_sort_key key = sort_key_at key.owner key.side key.addr key.entry

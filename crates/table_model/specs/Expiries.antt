-- Addresses with their expiries: the leases of a Thing, and the addresses at which a name was observed. An expiry is a
-- moment in seconds since 1970, or for ever.
use Rattle.std.specs.Prelude.{ℕ, ◌^◌, Bool, not, ◌&&◌, ◌||◌, ◌==◌, nat_lt, List, [], ◌∷◌, filter, length, Option, Some, None, if◌then◌else◌}
use Rattle.std.specs.List.{list_any, list_all}
use Rattle.mud_base.specs.Addresses.{same_addr}
use Rattle.mud_base.specs.declared.addr.Addr.{Addr}
use Rattle.base_rows.specs.Sortable.{set_row}
use Rattle.base_rows.specs.Addresses.{expiry_sort_key}
use Rattle.base_rows.specs.Ascending.{sort_keys_ascend}
pub use Rattle.acl_model.specs.Changes.{for_ever}

abbrev pub Expiries : Type 0
Expiries = List (Addr × ℕ)

-- what has this expiry counts at every moment before it, and no longer at that second itself
unfoldable pub is_live : ℕ → ℕ → Bool
is_live until now = nat_lt now until

-- ---- Rows of addresses and expiries

unfoldable pub has_address : Addr → Expiries → Bool
has_address a rows = list_any (λ r. same_addr r.0 a) rows

-- the address has an expiry that is live at this moment
unfoldable pub has_live : Addr → ℕ → Expiries → Bool
has_live a now rows = list_any (λ r. same_addr r.0 a && is_live r.1 now) rows

-- the expiry of the address
unfoldable pub expiry_of : Addr → Expiries → Option ℕ
expiry_of a [] = None
expiry_of a (r ∷ rows) = if same_addr r.0 a then Some r.1 else expiry_of a rows

unfoldable pub without_address : Addr → Expiries → Expiries
without_address a rows = filter (λ r. not (same_addr r.0 a)) rows

-- the rows with this expiry for the address
unfoldable pub with_expiry : Addr → ℕ → Expiries → Expiries
with_expiry a until rows = set_row expiry_sort_key (a, until) rows

-- the rows whose expiries are live at this moment
unfoldable pub live_rows : ℕ → Expiries → Expiries
live_rows now rows = filter (λ r. is_live r.1 now) rows

unfoldable pub live_count : ℕ → Expiries → ℕ
live_count now rows = length (live_rows now rows)

-- ---- What holds of every such list

-- in the order of the addresses, each address once
unfoldable pub are_ascending : Expiries → Bool
are_ascending rows = sort_keys_ascend expiry_sort_key rows

unfoldable pub have_expiries : Expiries → Bool
have_expiries rows = list_all (λ r. is_expiry r.1) rows
  where
    -- an expiry is for ever, or below 2^40
    is_expiry : ℕ → Bool
    is_expiry until = until == for_ever || nat_lt until (2 ^ 40)

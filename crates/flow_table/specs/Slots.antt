-- The slots of a generation, of which those with addresses of IPv4 stand by themselves, by a key of few octets.
use Rattle.std.specs.Prelude.{◌≡◌, ℕ, ◌/◌, ◌%◌, ◌^◌, Bool, true, false, cond, List, map, ◌++◌, Option, Some, None, if◌then◌else◌}
use Rattle.std.specs.BTreeMap.{is_at}
use Rattle.std.specs.declared.cmp.Ordering.{Ordering}
use Rattle.mud_base.specs.declared.addr.Addr.{Addr}
use Rattle.mud_base.specs.declared.addr.Addr.TheVariants.{V4, V6}
use Rattle.table_model.specs.History.{Begun}
use Rattle.flow_table.specs.Keys.{Key, key_cmp}
use Rattle.flow_table.specs.Held.{slot_at}
use Rattle.flow_table.specs.contracts.key.ShortKeyOrd.TheImpl as short_ord
pub use Rattle.flow_table.specs.declared.key.ShortKey.{ShortKey}

-- the order of short keys: that of their members
abbrev pub short_cmp : ShortKey → ShortKey → Ordering
short_cmp = (short_ord.ghosts).cmp

-- the key that a short one stands for: of two addresses of IPv4
unfoldable pub widened : ShortKey → Key
widened short = record {
  near = short.near;
  first_port = short.first_port;
  second_port = short.second_port;
  first_long = false;
  second_long = false;
  first = short.near / 2 ^ 32;
  second = short.near % 2 ^ 32;
}

-- the part of a key that tells short ones apart
unfoldable pub shortened : Key → ShortKey
shortened key = record { near = key.near; first_port = key.first_port; second_port = key.second_port }

-- the short key that stands for a key, where one does
unfoldable pub narrowed : Key → Option ShortKey
narrowed key = if is_at (key_cmp key) (widened (shortened key)) then Some (shortened key) else None

-- the address of a number, of IPv6 or of the last 32 bits
unfoldable pub addr_of : Bool → ℕ → Addr
addr_of false n = V4 (n % 2 ^ 32)
addr_of true n = V6 n

-- what is kept, by its parts
unfoldable pub begun_of : Bool → Bool → ℕ → ℕ → ℕ → Option Begun
begun_of false long number port at = None
begun_of true long number port at = Some ((addr_of long number, port), at)

unfoldable pub wide_slot : ShortKey × Option Begun → Key × Option Begun
wide_slot slot = (widened slot.0, slot.1)

unfoldable pub wide_slots : List (ShortKey × Option Begun) → List (Key × Option Begun)
wide_slots short = map wide_slot short

-- all slots of a generation
unfoldable pub slots_of : List (ShortKey × Option Begun) → List (Key × Option Begun) → List (Key × Option Begun)
slots_of short long = wide_slots short ++ long

-- this is in the slot of this key, and each other slot is as before
abbrev pub IsPut : Key → Option Begun → List (Key × Option Begun) → List (Key × Option Begun) → Type 0
IsPut key begun before after = (other : Key) → slot_at after other ≡ cond (is_at (key_cmp key) other) (Some begun) (slot_at before other)

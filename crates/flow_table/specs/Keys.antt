-- What two endpoints are looked for by: one key for both directions of a connection, and another one for each other
-- pair.
use Rattle.std.specs.Prelude.{ℕ, ◌+◌, ◌*◌, ◌%◌, ◌^◌, Bool, true, false}
use Rattle.std.specs.declared.cmp.Ordering.{Ordering}
use Rattle.mud_base.specs.declared.addr.Addr.{Addr}
use Rattle.mud_base.specs.declared.addr.Addr.TheVariants.{V4, V6}
use Rattle.table_model.specs.History.{Endpoint}
use Rattle.flow_table.specs.Pairs.{Pair, pair_of}
use Rattle.flow_table.specs.contracts.key.KeyOrd.TheImpl as key_ord
pub use Rattle.flow_table.specs.declared.key.Key.{Key}

-- the order of keys: that of their members
abbrev pub key_cmp : Key → Key → Ordering
key_cmp = (key_ord.ghosts).cmp

unfoldable pub number_of : Addr → ℕ
number_of (V4 n) = n
number_of (V6 n) = n

unfoldable pub is_long : Addr → Bool
is_long (V4 n) = false
is_long (V6 n) = true

unfoldable pub last_bits : ℕ → ℕ
last_bits n = n % 2 ^ 32

-- the key of two endpoints that stand in their order
unfoldable pub key_in : Pair → Key
key_in endpoints = record {
  near = last_bits (number_of endpoints.0.0) * 2 ^ 32 + last_bits (number_of endpoints.1.0);
  first_port = endpoints.0.1;
  second_port = endpoints.1.1;
  first_long = is_long endpoints.0.0;
  second_long = is_long endpoints.1.0;
  first = number_of endpoints.0.0;
  second = number_of endpoints.1.0;
}

unfoldable pub key_of : Endpoint → Endpoint → Key
key_of a b = key_in (pair_of a b)

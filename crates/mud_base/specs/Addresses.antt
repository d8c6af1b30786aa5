-- The order of addresses, and prefixes of them.
use Rattle.std.specs.Prelude.{◌≡◌, ℕ, ◌-◌, ◌*◌, ◌/◌, ◌^◌, ◌≤◌, Bool, false, ◌==◌, nat_le, Option, Some, None, if◌then◌else◌}
use Rattle.std.specs.Ordering.{nat_cmp}
use Rattle.std.specs.declared.cmp.Ordering.{Ordering}
use Rattle.std.specs.declared.cmp.Ordering.TheVariants.{Less, Greater}
use Rattle.mud_base.specs.declared.addr.Addr.{Addr}
use Rattle.mud_base.specs.declared.addr.Addr.TheVariants.{V4, V6}

-- IPv4 before IPv6, and then by number
unfoldable pub addr_cmp : Addr → Addr → Ordering
addr_cmp (V4 n) (V4 k) = nat_cmp n k
addr_cmp (V4 n) (V6 k) = Less
addr_cmp (V6 n) (V4 k) = Greater
addr_cmp (V6 n) (V6 k) = nat_cmp n k

unfoldable pub same_addr : Addr → Addr → Bool
same_addr (V4 n) (V4 k) = n == k
same_addr (V4 n) (V6 k) = false
same_addr (V6 n) (V4 k) = false
same_addr (V6 n) (V6 k) = n == k

-- how many bits an address of this version has
unfoldable pub addr_bits : Addr → ℕ
addr_bits (V4 n) = 32
addr_bits (V6 n) = 128

-- the address with each bit behind the first `len` at 0
unfoldable pub masked : Addr → ℕ → Addr
masked (V4 n) len = V4 (n / 2 ^ (32 - len) * 2 ^ (32 - len))
masked (V6 n) len = V6 (n / 2 ^ (128 - len) * 2 ^ (128 - len))

-- a prefix: the bits that it fixes, as an address with zeros behind them, and how many they are
pub record PrefixParts : Type 0 where
  pub addr : Addr
  pub len : ℕ

-- it fixes no more bits than there are, and the others are 0
pub record IsPrefix (prefix : PrefixParts) : Type 0 where
  pub within : prefix.len ≤ addr_bits prefix.addr
  pub cleared : masked prefix.addr prefix.len ≡ prefix.addr

-- the prefix that the first `len` bits of an address make, where there are so many
unfoldable pub prefix_at : Addr → ℕ → Option PrefixParts
prefix_at addr len = if nat_le len (addr_bits addr) then Some (record { addr = masked addr len; len = len }) else None

-- both are of one version, and their first `len` bits are equal
abbrev pub same_front : ℕ → Addr → Addr → Bool
same_front len (V4 n) (V4 k) = n / 2 ^ (32 - len) == k / 2 ^ (32 - len)
same_front len (V4 n) (V6 k) = false
same_front len (V6 n) (V4 k) = false
same_front len (V6 n) (V6 k) = n / 2 ^ (128 - len) == k / 2 ^ (128 - len)

-- the prefix holds the address
unfoldable pub prefix_holds : PrefixParts → Addr → Bool
prefix_holds prefix addr = same_front prefix.len prefix.addr addr

-- The fields of kept items: addresses, expiries, prefixes.
use Rattle.std.specs.Prelude.{ℕ, ◌+◌, ◌*◌, ◌/◌, ◌%◌, ◌^◌, ◌<◌, ◌==◌, List, ◌++◌, Some, None, if◌then◌else◌}
use Rattle.mud_base.specs.declared.addr.Addr.{Addr}
use Rattle.mud_base.specs.declared.addr.Addr.TheVariants.{V4, V6}
use Rattle.mud_base.specs.declared.prefix.Prefix.{Prefix}
use Rattle.item_codec.specs.Spelling.{number}
use Rattle.item_codec.specs.Records.{Reading, ◌>>=◌, number_in}

-- ---- An address: the octet 4 and four octets, or the octet 6 and sixteen, as two numbers of eight

unfoldable pub address : Addr → List ℕ
address (V4 n) = number 1 4 ++ number 4 n
address (V6 n) = number 1 6 ++ (number 8 (n / 2 ^ 64) ++ number 8 (n % 2 ^ 64))

unfoldable pub v4_in : Reading Addr
v4_in octets = do
  n ← number_in 4 octets
  Some (V4 n.0, n.1)

unfoldable pub v6_in : Reading Addr
v6_in octets = do
  high ← number_in 8 octets
  low ← number_in 8 high.1
  Some (V6 (high.0 * 2 ^ 64 + low.0), low.1)

unfoldable pub address_in : Reading Addr
address_in octets = do
  version ← number_in 1 octets
  if version.0 == 4 then v4_in version.1 else (if version.0 == 6 then v6_in version.1 else None)

abbrev pub IsAddr : Addr → Type 0
IsAddr (V4 n) = n < 2 ^ 32
IsAddr (V6 n) = n < 2 ^ 128

-- ---- An address and its expiry, in eight octets

unfoldable pub expiring : Addr × ℕ → List ℕ
expiring r = address r.0 ++ number 8 r.1

unfoldable pub expiring_in : Reading (Addr × ℕ)
expiring_in octets = do
  a ← address_in octets
  until ← number_in 8 a.1
  Some ((a.0, until.0), until.1)

abbrev pub IsExpiring : Addr × ℕ → Type 0
IsExpiring r = IsAddr r.0 × (r.1 < 2 ^ 64)

-- ---- A prefix: its address, and its length in one octet

unfoldable pub network_in : Reading Prefix
network_in octets = do
  a ← address_in octets
  len ← number_in 1 a.1
  Some (record { addr = a.0; len = len.0 }, len.1)

abbrev pub IsNetwork : Prefix → Type 0
IsNetwork prefix = IsAddr prefix.addr × (prefix.len < 2 ^ 8)

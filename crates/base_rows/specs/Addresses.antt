-- The sort keys of addresses, of addresses with their expiries, and of prefixes.
use Rattle.std.specs.Prelude.{ℕ, List, [], ◌∷◌, ◌++◌}
use Rattle.mud_base.specs.declared.addr.Addr.{Addr}
use Rattle.mud_base.specs.declared.addr.Addr.TheVariants.{V4, V6}
use Rattle.mud_base.specs.declared.prefix.Prefix.{Prefix}

-- the version of an address and its number: IPv4 comes before IPv6
unfoldable pub addr_sort_key : Addr → List ℕ
addr_sort_key (V4 n) = 4 ∷ n ∷ []
addr_sort_key (V6 n) = 6 ∷ n ∷ []

-- an address with its expiry has the sort key of the address
unfoldable pub expiry_sort_key : Addr × ℕ → List ℕ
expiry_sort_key r = addr_sort_key r.0

-- the sort key of the address and, behind it, the length
unfoldable pub prefix_sort_key : Prefix → List ℕ
prefix_sort_key p = addr_sort_key p.addr ++ p.len ∷ []

-- What may be asked of a table of names: an address, for so many seconds, under a name.
use Rattle.std.specs.Prelude.{◌≡◌, ◌<◌, ◌≤◌, ℕ, true, List}
use Rattle.mud_base.specs.declared.addr.Addr.{Addr}
use Rattle.mud_url.specs.Host.{is_host, lowered}

-- The name is a host name in lower case. The seconds are more than none, and those of a ttl: 31 bits (RFC 2181, section 8).
pub record IsObservable (name : List ℕ) (row : Addr × ℕ) : Type 0 where
  pub host : is_host name ≡ true
  pub lower : lowered name ≡ name
  pub some : 0 < row.1
  pub few : row.1 ≤ 2147483647

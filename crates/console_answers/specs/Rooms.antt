-- A buffer of 4,096 octets, and how many of them are in use.
use Rattle.std.specs.Prelude.{◌≡◌, ℕ, ◌≤◌, List, length}

pub record IsFilled (octets : List ℕ) (len : ℕ) : Type 0 where
  pub within : len ≤ 4096
  pub whole : length octets ≡ 4096

-- What a buffer holds.
use Rattle.std.specs.Prelude.{ℕ, List}

-- the octets that were handed out last, and those behind them that weren't yet
pub record Holding : Type 0 where
  pub given : List ℕ
  pub held : List ℕ

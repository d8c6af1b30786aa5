-- What a view of a packet stands for.
use Rattle.std.specs.Prelude.{ℕ, List}
use Rattle.mud_base.specs.declared.packet.Fields.{Fields}

-- a frame that carries an IP packet, and what the packet's headers say
pub record PacketFrame : Type 0 where
  pub octets : List ℕ
  pub fields : Fields

-- what the headers of a packet say, and what it holds behind them
pub record Contents : Type 0 where
  pub fields : Fields
  pub payload : List ℕ

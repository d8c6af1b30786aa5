-- The order of the sides of packets.
use Rattle.std.specs.Prelude.{ℕ}
use Rattle.mud_base.specs.declared.packet.Direction.{Direction}
use Rattle.mud_base.specs.declared.packet.Direction.TheVariants.{From, To}

-- what a Thing sends comes before what is sent to it
unfoldable pub side_number : Direction → ℕ
side_number From = 0
side_number To = 1

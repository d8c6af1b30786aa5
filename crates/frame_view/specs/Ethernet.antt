-- The hardware addresses of an Ethernet frame (IEEE 802.3).
use Rattle.std.specs.Prelude.{ℕ, List}
use Rattle.mud_base.specs.declared.addr.Mac.{Mac}
use Rattle.mud_base.specs.Ethernet.{destination_offset, source_offset}
use Rattle.mud_base.specs.Offsets.{mac_at}

unfoldable pub destination_of : List ℕ → Mac
destination_of frame = mac_at destination_offset frame

unfoldable pub source_of : List ℕ → Mac
source_of frame = mac_at source_offset frame

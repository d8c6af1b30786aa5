-- Parts of definitions that lemmas speak of.
use Rattle.std.specs.Prelude.{ℕ, []}
use Rattle.mud_base.specs.declared.packet.Transport.TheVariants.{Absent}
use Rattle.frame_view.specs.Upper.{Upper}

abbrev pub later_part : ℕ → Upper
later_part number = record { protocol = number; transport = Absent; payload = [] }

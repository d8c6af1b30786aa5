-- What was written of the output.
use Rattle.std.proofs.Common.{◌≡◌, ℕ, List, sym, ◌∙◌, arith}
use Rattle.mud_world.specs.Door.{DoorState}
use Rattle.mud_world.proofs.Doors.{put_out_none}
use Rattle.run_common.specs.Output.{WroteFirst}

-- nothing was written
pub wrote_none : (text : List ℕ) (old new : DoorState) → new ≡ old → WroteFirst text old new
wrote_none text old new same = record { count = 0; within = omega arith; wrote = same ∙ sym (put_out_none old) }

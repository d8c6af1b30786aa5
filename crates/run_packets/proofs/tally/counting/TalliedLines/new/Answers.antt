use Rattle.std.proofs.Common.{refl}
use Rattle.mud_desk.specs.DeskState.{session_of}
use Rattle.run_packets.proofs.tally.counting.TalliedLines.new.Goals as goal

pub returns : goal.returns
unfolding session_of
returns c = λ moment_is. record { session = refl; moment = moment_is; stands = c.new.ensures }

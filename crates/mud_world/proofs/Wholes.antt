-- Laws of connections that are read by many calls.
use Rattle.std.proofs.Common.{ℕ, ◌+◌, ◌≤◌, List, ◌++◌, length, arith, length-append}
use Rattle.mud_world.specs.Door.{DoorState, Took}
use Rattle.mud_world.specs.Whole.{TookPart}
use Rattle.mud_world.proofs.Doors.{took_more}

-- Octets were taken, and then at most so many more.
pub took_part : (octets : List ℕ) (room most : ℕ) (s t u : DoorState) → Took octets s t → TookPart room t u → length octets + room ≤ most → TookPart most s u
took_part octets room most s t u p q fits = record {
  octets = octets ++ q.octets;
  took = took_more octets q.octets s t u p q.took;
  within = omega (arith, length-append octets q.octets, q.within);
}
